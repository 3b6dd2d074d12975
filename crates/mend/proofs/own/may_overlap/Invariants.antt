-- `mend::own::may_overlap` meets its contract.
-- Assumes nothing.
use Rattle.std.specs.Prelude.{◌≤◌, ◌-◌}
use Rattle.mend.proofs.own.may_overlap.Given as goal

abbrev pub invariant-loop-k : goal.invariant-loop-k
invariant-loop-k l = l.k ≤ l.n

abbrev pub decreases-loop-k : goal.decreases-loop-k
decreases-loop-k l = l.n - l.k
