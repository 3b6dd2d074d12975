-- `made::linked_whose` meets its contract.
-- Assumes nothing.
use Rattle.number.proofs.Tools.{refl}
use Rattle.made.specs.Made.{linked_whose}
use Rattle.made.proofs.linked_whose.Goals as goal

pub returns-in-Ok : goal.returns-in-Ok
unfolding linked_whose
returns-in-Ok c = rw c.in-Ok.is refl

pub returns-in-Err : goal.returns-in-Err
unfolding linked_whose
returns-in-Err c = rw c.in-Err.is refl
