-- `cabi::saniotka_key` meets its contract.
-- Assumes nothing.
use Rattle.number.proofs.Tools.{arith}
use Rattle.numbers.specs.Numbers.{interface_numbers}
use Rattle.numbers.proofs.Calls.{short, answers}
use Rattle.cabi.proofs.saniotka_key.Goals as goal

pub returns-then-answer-lt-ROOM : goal.returns-then-answer-lt-ROOM
returns-then-answer-lt-ROOM c = short (omega arith)

pub returns : goal.returns
returns c = answers interface_numbers (omega arith) c.interface_by_key.ensures c.put_interface.ensures
