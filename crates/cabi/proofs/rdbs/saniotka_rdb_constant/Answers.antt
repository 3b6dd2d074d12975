-- `cabi::rdbs::saniotka_rdb_constant` meets its contract.
-- Assumes nothing.
use Rattle.number.proofs.Tools.{arith, refl}
use Rattle.rdb_numbers.specs.Numbers.{constant_numbers}
use Rattle.numbers.proofs.Calls.{short, answers}
use Rattle.cabi.proofs.rdbs.saniotka_rdb_constant.Goals as goal

pub returns-then-answer-lt-ROOM : goal.returns-then-answer-lt-ROOM
returns-then-answer-lt-ROOM c = short (omega arith)

pub returns : goal.returns
returns c = answers constant_numbers (omega arith) refl c.put_constant.ensures
