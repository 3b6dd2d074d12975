-- `streamed::after_part` meets its contract.
-- Assumes nothing.
use Rattle.number.proofs.Tools.{refl}
use Rattle.streamed.specs.Stream.{after_part}
use Rattle.streamed.proofs.after_part.Goals as goal

pub returns-then-ends : goal.returns-then-ends
unfolding after_part
returns-then-ends c = rw c.if-ends.true c.no_rest.ensures

pub returns : goal.returns
unfolding after_part
returns c = rw c.if-ends.false refl
