-- `cabi::rdbs::saniotka_rdb_entity` meets its contract.
-- Assumes nothing.
use Rattle.number.proofs.Tools.{arith, refl}
use Rattle.rdb_numbers.specs.Numbers.{entity_numbers}
use Rattle.numbers.proofs.Calls.{short, answers}
use Rattle.cabi.proofs.rdbs.saniotka_rdb_entity.Goals as goal

pub returns-then-answer-lt-ROOM : goal.returns-then-answer-lt-ROOM
returns-then-answer-lt-ROOM c = short (omega arith)

pub returns : goal.returns
returns c = answers entity_numbers (omega arith) refl c.put_entity.ensures
