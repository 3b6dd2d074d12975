-- `writing::constant::constants_end` meets its contract.
-- Assumes nothing.
use Rattle.reader.specs.Records.{ShowsConstant}
use Rattle.reader.proofs.Turns as turns
use Rattle.writing.proofs.constant.constants_end.Given as goal

abbrev pub invariant-loop : goal.invariant-loop
invariant-loop l = turns.Left (ShowsConstant l.pool) l.n l.at l.counter l.p
