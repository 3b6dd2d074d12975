-- `listed::is_over` meets its contract.
-- Assumes nothing.
use Rattle.number.proofs.Tools.{refl}
use Rattle.listed.specs.Rest.{nothing_next, is_over}
use Rattle.listed.proofs.is_over.Goals as goal

pub returns-in-Over : goal.returns-in-Over
unfolding is_over nothing_next
returns-in-Over c = rw c.in-Over.is refl

pub returns-in-Closing : goal.returns-in-Closing
unfolding is_over nothing_next
returns-in-Closing c = rw c.in-Closing.is refl

pub returns-in-At : goal.returns-in-At
unfolding is_over nothing_next
returns-in-At c = rw c.in-At.is refl
