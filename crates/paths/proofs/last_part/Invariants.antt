use Rattle.std.proofs.Common.{◌≡◌, ◌≤◌}
use Rattle.paths.specs.Path.{last_within}
use Rattle.paths.proofs.last_part.Given as goal

abbrev pub invariant-loop-i : goal.invariant-loop-i
invariant-loop-i l = (l.from ≤ l.i) × (l.from ≡ last_within l.path l.i)
