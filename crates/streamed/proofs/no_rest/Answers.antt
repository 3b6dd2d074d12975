-- `streamed::no_rest` meets its contract.
-- Assumes nothing.
use Rattle.number.proofs.Tools.{refl}
use Rattle.streamed.proofs.no_rest.Goals as goal

pub returns : goal.returns
returns c = rw c.no_rest.ensures refl
