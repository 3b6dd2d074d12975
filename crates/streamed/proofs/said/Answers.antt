-- `streamed::said` meets its contract.
-- Assumes nothing.
use Rattle.number.proofs.Tools.{refl}
use Rattle.streamed.proofs.said.Goals as goal

pub returns : goal.returns
returns c = rw c.no_rest.ensures refl
