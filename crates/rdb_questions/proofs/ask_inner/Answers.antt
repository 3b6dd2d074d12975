-- `rdb_questions::ask_inner` meets its contract.
-- Assumes nothing.
use Rattle.words.proofs.SpanLaws.{word_bytes}
use Rattle.rdb_questions.proofs.ask_inner.Goals as goal

pub returns : goal.returns
returns c b = rw (← word_bytes 3 c.word-path.ensures, ← word_bytes 5 c.word-first.ensures, ← word_bytes 6 c.word-second.ensures) (c.inner_of.ensures b)
