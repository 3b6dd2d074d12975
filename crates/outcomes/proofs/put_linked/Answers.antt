-- `outcomes::put_linked` meets its contract.
-- Assumes nothing.
use lib.ListN.{length-set}
use Rattle.number.proofs.Tools.{arith, refl}
use Rattle.outcomes.specs.Numbers.{link_numbers}
use Rattle.outcomes.proofs.put_linked.Goals as goal

pub bounds-answer-1 : goal.bounds-answer-1
bounds-answer-1 c = simp length-set (omega arith)

pub returns-in-Ok : goal.returns-in-Ok
unfolding link_numbers
returns-in-Ok c = rw c.in-Ok.is refl

pub returns-in-Err : goal.returns-in-Err
unfolding link_numbers
returns-in-Err c = rw c.in-Err.is c.put_link_refusal.ensures
