-- `rdb_questions::ask_constant` meets its contract.
-- Assumes nothing.
use Rattle.words.proofs.SpanLaws.{word_bytes}
use Rattle.rdb_questions.proofs.ask_constant.Goals as goal

pub returns : goal.returns
returns c = rw (← word_bytes 3 c.word-path.ensures) c.constant.ensures
