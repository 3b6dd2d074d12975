-- `piling::add_next` meets its contract.
-- Assumes nothing.
use Rattle.number.proofs.Tools.{refl}
use Rattle.piling.specs.Fetching.{WentOn}
use Rattle.piling.proofs.add_next.Goals as goal

pub returns-in_default : goal.returns-in_default
unfolding WentOn
returns-in_default c = (c.fetch-asked.ensures.tidy, (tt, (c.fetch-asked.ensures, (refl, refl))))

pub returns : goal.returns
unfolding WentOn
returns c = (c.fetch-asked.ensures.tidy, (c.add_kept-added.ensures.1, (rw (← c.in-Kept.is) c.fetch-asked.ensures, c.add_kept-added.ensures.0)))
