-- `cabi::saniotka_method` meets its contract.
-- Assumes nothing.
use Rattle.number.proofs.Tools.{arith}
use Rattle.numbers.specs.Numbers.{method_numbers}
use Rattle.numbers.proofs.Calls.{short, answers}
use Rattle.cabi.proofs.saniotka_method.Goals as goal

pub returns-then-answer-lt-ROOM : goal.returns-then-answer-lt-ROOM
returns-then-answer-lt-ROOM c = short (omega arith)

pub returns : goal.returns
returns c = answers method_numbers (omega arith) c.method_of_kind.ensures c.put_method.ensures
