-- `made::normalised_save` meets its contract.
-- Assumes nothing.
use Rattle.number.proofs.Tools.{refl}
use Rattle.made.specs.Made.{normalised_save}
use Rattle.made.proofs.normalised_save.Goals as goal

pub returns-in-Ok : goal.returns-in-Ok
unfolding normalised_save
returns-in-Ok c = rw c.in-Ok.is refl

pub returns-in-Err : goal.returns-in-Err
unfolding normalised_save
returns-in-Err c = rw c.in-Err.is refl
