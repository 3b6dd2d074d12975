-- `made::linked_save` meets its contract.
-- Assumes nothing.
use Rattle.number.proofs.Tools.{refl}
use Rattle.made.specs.Made.{linked_save}
use Rattle.made.proofs.linked_save.Goals as goal

pub returns-in-Ok : goal.returns-in-Ok
unfolding linked_save
returns-in-Ok c = rw c.in-Ok.is refl

pub returns-in-Err : goal.returns-in-Err
unfolding linked_save
returns-in-Err c = rw c.in-Err.is refl
