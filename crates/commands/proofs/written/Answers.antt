-- `commands::written` meets its contract.
-- Assumes nothing.
use Rattle.number.proofs.Tools.{refl}
use Rattle.commands.proofs.written.Goals as goal

pub returns : goal.returns
returns c = rw c.no_rest.ensures refl
