-- `named::fetch` meets its contract.
-- Assumes nothing.
use Rattle.words.proofs.SpanLaws.{word_bytes}
use Rattle.named.proofs.fetch.Goals as goal

pub returns : goal.returns
returns c = rw (← word_bytes _ c.argument-name.ensures, ← c.in_batch.ensures) c.load.ensures
