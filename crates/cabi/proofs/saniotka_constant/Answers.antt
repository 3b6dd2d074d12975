-- `cabi::saniotka_constant` meets its contract.
-- Assumes nothing.
use Rattle.number.proofs.Tools.{arith}
use Rattle.numbers.specs.Numbers.{constant_numbers}
use Rattle.numbers.proofs.Calls.{short, answers}
use Rattle.cabi.proofs.saniotka_constant.Goals as goal

pub returns-then-answer-lt-ROOM : goal.returns-then-answer-lt-ROOM
returns-then-answer-lt-ROOM c = short (omega arith)

pub returns : goal.returns
returns c = answers constant_numbers (omega arith) c.constant_by_name.ensures c.put_constant.ensures
