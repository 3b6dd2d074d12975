-- `piling::fetch` meets its contract.
-- Assumes nothing.
use Rattle.piling.proofs.fetch.Goals as goal

pub returns : goal.returns
returns c = rw (← c.with_room-roomy.ensures.1.1) c.fetch.ensures
