-- `streamed::is_over` meets its contract.
-- Assumes nothing.
use Rattle.number.proofs.Tools.{refl}
use Rattle.streamed.specs.Stream.{is_over}
use Rattle.streamed.proofs.is_over.Goals as goal

pub returns-in-Lines : goal.returns-in-Lines
unfolding is_over
returns-in-Lines c = rw c.in-Lines.is c.is_over.ensures

pub returns-in-Part : goal.returns-in-Part
unfolding is_over
returns-in-Part c = rw c.in-Part.is refl

pub returns-in-Paths : goal.returns-in-Paths
unfolding is_over
returns-in-Paths c = rw c.in-Paths.is refl
