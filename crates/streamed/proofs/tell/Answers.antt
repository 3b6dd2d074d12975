-- `streamed::tell` meets its contract.
-- Assumes nothing.
use Rattle.number.proofs.Tools.{refl}
use Rattle.streamed.proofs.tell.Goals as goal

pub returns : goal.returns
returns c = rw c.why_of.ensures refl
