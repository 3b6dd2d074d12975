-- `named::file_at` meets its contract.
-- Assumes nothing.
use Rattle.words.proofs.SpanLaws.{word_bytes}
use Rattle.named.proofs.file_at.Goals as goal

pub returns : goal.returns
returns c =
    let e = c.file_of.ensures in
    record { ordered = e.0; inside = e.1.0; bytes = rw (← word_bytes _ c.argument-word.ensures) e.1.1 }
