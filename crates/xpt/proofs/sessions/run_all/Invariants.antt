-- `xpt::sessions::run_all` meets its contract. The loop's invariant: the feed is one of this input, and the table is tidy. The measure is the turns that are left.
-- Assumes nothing.
use Rattle.kept.specs.Table.{Tidy}
use Rattle.feed.specs.Input.{Fed}
use Rattle.xpt.proofs.sessions.run_all.Given as goal

abbrev pub invariant-loop-turns : goal.invariant-loop-turns
invariant-loop-turns l = Fed l.input l.feed × Tidy l.rows l.kept

abbrev pub decreases-loop-turns : goal.decreases-loop-turns
decreases-loop-turns l = l.turns
