-- `cabi::salvages::put_salvaged` meets its contract.
-- Assumes nothing.
use lib.ListN.{length-set}
use Rattle.number.proofs.Tools.{arith, refl}
use Rattle.cabi.specs.Salvages.{salvaged_numbers}
use Rattle.cabi.proofs.salvages.put_salvaged.Goals as goal

pub bounds-answer-1 : goal.bounds-answer-1
bounds-answer-1 c = simp length-set (omega arith)

pub bounds-answer-2 : goal.bounds-answer-2
bounds-answer-2 c = simp length-set (omega arith)

pub returns-in-Ok : goal.returns-in-Ok
unfolding salvaged_numbers
returns-in-Ok c = rw c.in-Ok.is refl

pub returns-in-Err : goal.returns-in-Err
unfolding salvaged_numbers
returns-in-Err c = rw c.in-Err.is c.put_refusal.ensures
