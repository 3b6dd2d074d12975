-- `salvage::work::clear_reported` meets its contract.
-- Assumes nothing.
use Rattle.std.specs.Prelude.{◌≡◌, ◌≤◌, ◌-◌}
use Rattle.salvage.specs.Tables.{clear_by}
use Rattle.mend.specs.Tables.{number_in}
use Rattle.number.proofs.Tools.{length}
use Rattle.salvage.proofs.work.clear_reported.Given as goal

abbrev pub invariant-loop-k : goal.invariant-loop-k
invariant-loop-k l = (l.k ≤ l.n) × (length l.copy ≡ length l.initial.copy) × (l.copy ≡ clear_by (number_in l.own l.ups l.n) l.d l.k l.initial.copy)

abbrev pub decreases-loop-k : goal.decreases-loop-k
decreases-loop-k l = l.n - l.k
