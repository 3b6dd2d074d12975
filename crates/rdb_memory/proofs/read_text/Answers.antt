-- `rdb_memory::read_text` meets its contract: a text that is known ends in the file.
-- Assumes nothing.
use Rattle.number.proofs.Tools.{refl}
use Rattle.rdb_text.proofs.TextLaws.{text_ends}
use Rattle.rdb_memory.proofs.read_text.Goals as goal

pub returns-then-e-gt0-clause-within : goal.returns-then-e-gt0-clause-within
returns-then-e-gt0-clause-within c = text_ends _ _ _ refl (c.known_end-e.ensures c.if-e-gt0.true)
