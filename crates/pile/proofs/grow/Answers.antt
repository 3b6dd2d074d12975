-- `pile::grow` meets its contract.
-- Assumes nothing.
use Rattle.pile.proofs.Faces.{grown_written, grown_refused}
use Rattle.pile.proofs.grow.Goals as goal

pub returns-in-Ok : goal.returns-in-Ok
returns-in-Ok c = grown_written _ _ _ c.in-Ok.is

pub returns-in-Err : goal.returns-in-Err
returns-in-Err c = grown_refused _ _ _ _ c.in-Err.is c.next_step-step.ensures
