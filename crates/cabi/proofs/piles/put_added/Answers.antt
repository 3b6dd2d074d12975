-- `cabi::piles::put_added` meets its contract.
-- Assumes nothing.
use lib.ListN.{length-set}
use Rattle.number.proofs.Tools.{arith, refl}
use Rattle.cabi.specs.Piles.{pile_numbers}
use Rattle.cabi.proofs.piles.put_added.Goals as goal

pub bounds-answer-1 : goal.bounds-answer-1
bounds-answer-1 c = simp length-set (omega arith)

pub bounds-answer-2 : goal.bounds-answer-2
bounds-answer-2 c = simp length-set (omega arith)

pub returns-in-Grown : goal.returns-in-Grown
unfolding pile_numbers
returns-in-Grown c = rw c.in-Grown.is refl

pub returns-in-Refused : goal.returns-in-Refused
unfolding pile_numbers
returns-in-Refused c = rw c.in-Refused.is c.put_pile_refusal.ensures

pub returns-in-Full : goal.returns-in-Full
unfolding pile_numbers
returns-in-Full c = rw c.in-Full.is refl
