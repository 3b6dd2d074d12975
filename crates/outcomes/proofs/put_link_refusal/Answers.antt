-- `outcomes::put_link_refusal` meets its contract.
-- Assumes nothing.
use lib.ListN.{length-set}
use Rattle.number.proofs.Tools.{arith, refl}
use Rattle.outcomes.specs.Numbers.{link_refusal_numbers}
use Rattle.outcomes.proofs.put_link_refusal.Goals as goal

pub bounds-answer-1 : goal.bounds-answer-1
bounds-answer-1 c = simp length-set (omega arith)

pub bounds-answer-2 : goal.bounds-answer-2
bounds-answer-2 c = simp length-set (omega arith)

pub bounds-answer-3 : goal.bounds-answer-3
bounds-answer-3 c = simp length-set (omega arith)

pub returns : goal.returns
unfolding link_refusal_numbers
returns c = rw c.which_number-which.ensures.0 refl
