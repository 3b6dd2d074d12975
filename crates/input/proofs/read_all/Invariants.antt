use Rattle.std.proofs.Common.{ℕ, ◌-◌, ◌≤◌, length, take, List}
use Rattle.input.specs.File.{number_of, StandsBehind}
use Rattle.input.proofs.read_all.Given as goal

abbrev pub invariant-loop-end : goal.invariant-loop-end
invariant-loop-end l = ((l.from ≤ l.end) × (l.end ≤ length l.buf)) × ((name : List ℕ) → StandsBehind name (number_of l.source) (take l.from l.initial.buf) → StandsBehind name (number_of l.source) (take l.end l.buf))

abbrev pub decreases-loop-end : goal.decreases-loop-end
decreases-loop-end l = length l.initial.buf - l.end
