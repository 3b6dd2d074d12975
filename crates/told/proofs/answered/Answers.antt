-- `told::answered` meets its contract.
-- Assumes nothing.
use Rattle.number.proofs.Tools.{subst}
use Rattle.streams.specs.Printed.{Prints}
use Rattle.told.proofs.answered.Goals as goal

pub returns-then-is_open : goal.returns-then-is_open
returns-then-is_open c bytes p = subst (Prints bytes) c.if-is_open.true p

pub returns : goal.returns
returns c bytes p = subst (Prints bytes) c.if-is_open.false p
