-- `mend::reports::comes_back` meets its contract.
-- Assumes nothing.
use Rattle.std.specs.Prelude.{◌≡◌, ◌≤◌, ◌+◌, ◌-◌}
use Rattle.mend.specs.Tables.{up_in}
use Rattle.mend.specs.Cycle.{back_after}
use Rattle.rules.specs.Rules.{climb}
use Rattle.number.proofs.Scans.{Misses}
use Rattle.mend.proofs.reports.comes_back.Given as goal

abbrev pub invariant-loop-t : goal.invariant-loop-t
invariant-loop-t l = (l.t ≤ l.n) × (l.i ≤ l.n) × (l.i ≡ climb l.t (up_in l.ups) (l.k + 1)) × Misses (back_after (up_in l.ups) l.k) l.t

abbrev pub decreases-loop-t : goal.decreases-loop-t
decreases-loop-t l = l.n - l.t
