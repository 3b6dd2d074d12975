-- `outcomes::put_normalised` meets its contract.
-- Assumes nothing.
use lib.ListN.{length-set}
use Rattle.number.proofs.Tools.{arith, refl}
use Rattle.outcomes.specs.Numbers.{normal_numbers}
use Rattle.outcomes.proofs.put_normalised.Goals as goal

pub bounds-answer-1 : goal.bounds-answer-1
bounds-answer-1 c = simp length-set (omega arith)

pub returns-in-Ok : goal.returns-in-Ok
unfolding normal_numbers
returns-in-Ok c = rw c.in-Ok.is refl

pub returns-in-Err : goal.returns-in-Err
unfolding normal_numbers
returns-in-Err c = rw c.in-Err.is c.put_refusal.ensures
