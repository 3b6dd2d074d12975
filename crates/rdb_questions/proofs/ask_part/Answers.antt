-- `rdb_questions::ask_part` meets its contract.
-- Assumes nothing.
use Rattle.words.proofs.SpanLaws.{word_bytes}
use Rattle.rdb_questions.proofs.ask_part.Goals as goal

pub returns : goal.returns
returns c b = rw (← word_bytes 3 c.word-path.ensures, ← word_bytes 5 c.word-position.ensures) (c.part_at.ensures b)
