-- `salvaging::put_lines` meets its contract.
-- Assumes nothing.
use Rattle.std.specs.Prelude.{◌+◌, ◌*◌, ◌-◌, ◌≤◌}
use Rattle.text.specs.Writing.{Wrote}
use Rattle.salvaging.specs.Lists.{list_lines}
use Rattle.salvaging.proofs.put_lines.Given as goal

abbrev pub invariant-loop-k : goal.invariant-loop-k
invariant-loop-k l = (l.k ≤ l.n) × (l.end ≤ l.at + 63 * l.k) × Wrote l.initial.text l.at (list_lines l.indexes l.numbers l.places l.k) l.end l.text

abbrev pub decreases-loop-k : goal.decreases-loop-k
decreases-loop-k l = l.n - l.k
