-- `outcomes::which_number` meets its contract.
-- Assumes nothing.
use Rattle.number.proofs.Tools.{refl, arith}
use Rattle.outcomes.specs.Lines.{which_number}
use Rattle.outcomes.proofs.which_number.Goals as goal

pub returns-in-First : goal.returns-in-First
unfolding which_number
returns-in-First c = (rw c.in-First.is refl, omega arith)

pub returns-in-Second : goal.returns-in-Second
unfolding which_number
returns-in-Second c = (rw c.in-Second.is refl, omega arith)

pub returns-in-Union : goal.returns-in-Union
unfolding which_number
returns-in-Union c = (rw c.in-Union.is refl, omega arith)
