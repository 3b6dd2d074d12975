-- `xpt::sessions::is_answered` meets its contract.
-- Assumes nothing.
use Rattle.number.proofs.Scans.{clash}
use Rattle.xpt.proofs.sessions.is_answered.Goals as goal

pub returns-then-in_batch : goal.returns-then-in_batch
returns-then-in_batch c = λ e. clash c.args.in_batch c.if-in_batch.true e

pub returns : goal.returns
returns c = λ e. c.ask_one.ensures
