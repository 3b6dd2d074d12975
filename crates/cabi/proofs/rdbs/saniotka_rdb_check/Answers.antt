-- `cabi::rdbs::saniotka_rdb_check` meets its contract.
-- Assumes nothing.
use Rattle.number.proofs.Tools.{arith}
use Rattle.numbers.specs.Numbers.{verdict_numbers}
use Rattle.numbers.proofs.Calls.{short, answers}
use Rattle.cabi.proofs.rdbs.saniotka_rdb_check.Goals as goal

pub returns-then-answer-lt-ROOM : goal.returns-then-answer-lt-ROOM
returns-then-answer-lt-ROOM c = short (omega arith)

pub returns : goal.returns
returns c = answers verdict_numbers (omega arith) c.check_by.ensures c.put_verdict.ensures
