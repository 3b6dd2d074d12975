-- `salvage::reports::put_reports` meets its contract.
-- Assumes nothing.
use Rattle.std.specs.Prelude.{◌≡◌, ◌≤◌, ◌-◌}
use Rattle.salvage.specs.Tables.{list_by, index_at, reported_at}
use Rattle.mend.specs.Tables.{number_in, place_in}
use lib.Seq.{sets}
use Rattle.number.proofs.Tools.{length}
use Rattle.salvage.proofs.reports.put_reports.Given as goal

abbrev pub invariant-loop-k : goal.invariant-loop-k
invariant-loop-k l = (l.k ≤ l.n) × (l.c ≡ length (list_by (number_in l.own l.ups l.n) index_at l.k)) × (l.indexes ≡ sets l.initial.indexes 0 (list_by (number_in l.own l.ups l.n) index_at l.k)) × (l.numbers ≡ sets l.initial.numbers 0 (list_by (number_in l.own l.ups l.n) (reported_at (number_in l.own l.ups l.n)) l.k)) × (l.places ≡ sets l.initial.places 0 (list_by (number_in l.own l.ups l.n) (place_in l.own l.at l.d) l.k))

abbrev pub decreases-loop-k : goal.decreases-loop-k
decreases-loop-k l = l.n - l.k
