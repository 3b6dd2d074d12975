-- `xpt::sessions::run_all` meets its contract. The loop's invariant: the feed is one of this input, and the table is tidy. The measure is the turns that are left.
-- Assumes nothing.
use Rattle.kept.proofs.RowLaws.{Tidy-nothing}
use Rattle.xpt.proofs.sessions.run_all.Goals as goal

pub loop-turns-init : goal.loop-turns-init
loop-turns-init c = (c.requires.0, Tidy-nothing _ c.requires.1)
