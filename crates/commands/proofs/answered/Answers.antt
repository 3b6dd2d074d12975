-- `commands::answered` meets its contract.
-- Assumes nothing.
use Rattle.number.proofs.Tools.{refl}
use Rattle.commands.proofs.answered.Goals as goal

pub returns : goal.returns
returns c = rw c.no_rest.ensures refl
