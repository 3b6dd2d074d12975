-- `listed::rest_of` meets its contract.
-- Assumes nothing.
use Rattle.number.proofs.Tools.{refl}
use Rattle.number.specs.Choice.{when◌then◌else◌}
use Rattle.listed.specs.Rest.{after_lines, rest_of}
use Rattle.listed.proofs.rest_of.Goals as goal

pub returns-then-in_batch : goal.returns-then-in_batch
unfolding rest_of after_lines when◌then◌else◌
returns-then-in_batch c = rw (← c.is_done.ensures, c.if-is_done.true, c.if-in_batch.true) refl

pub returns-then-is_done : goal.returns-then-is_done
unfolding rest_of after_lines when◌then◌else◌
returns-then-is_done c = rw (← c.is_done.ensures, c.if-is_done.true, c.if-in_batch.false) refl

pub returns : goal.returns
unfolding rest_of when◌then◌else◌
returns c = rw (← c.is_done.ensures, c.if-is_done.false) refl
