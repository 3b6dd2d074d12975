-- `rdb_questions::ask_entity` meets its contract.
-- Assumes nothing.
use Rattle.words.proofs.SpanLaws.{word_bytes}
use Rattle.rdb_questions.proofs.ask_entity.Goals as goal

pub returns : goal.returns
returns c = rw (← word_bytes 3 c.word-path.ensures) c.entity.ensures
