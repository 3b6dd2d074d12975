-- `streamed::after_paths` meets its contract.
-- Assumes nothing.
use Rattle.number.proofs.Tools.{refl}
use Rattle.streamed.specs.Stream.{after_paths}
use Rattle.streamed.proofs.after_paths.Goals as goal

pub returns-in-Some : goal.returns-in-Some
unfolding after_paths
returns-in-Some c = rw c.in-Some.is refl

pub returns-in-None : goal.returns-in-None
unfolding after_paths
returns-in-None c = rw (c.in-None.is, c.rest_of.ensures) refl
