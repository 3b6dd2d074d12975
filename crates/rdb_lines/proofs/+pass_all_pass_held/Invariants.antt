-- `rdb_lines::pass_all` and `pass_held` meet their contracts. The measure is the number of modules left, twice, and one more for the entries of a map. The loop's
-- invariant: the lines from entry i on are left.
-- Assumes nothing.
use Rattle.std.specs.Prelude.{◌≤◌, ◌+◌, ◌-◌}
use Rattle.rdb_list.specs.Listed.{entity_lines, held_lines}
use Rattle.rdb_line.specs.Spelt.{words_at}
use Rattle.rdb_lines.specs.Walk.{Fit}
use Rattle.rdb_lines.proofs.WalkLaws.{Going}
use Rattle.rdb_lines.proofs.+pass_all_pass_held.Given as goal

abbrev pub decreases-pass_all : goal.decreases-pass_all
decreases-pass_all l = l.left + l.left + 1

abbrev pub invariant-pass_all-loop-i : goal.invariant-pass_all-loop-i
invariant-pass_all-loop-i l = (l.i ≤ l.n) × Fit l.from l.q × Going l.from (entity_lines (held_lines l.left l.file) l.file (words_at l.file l.places l.depth) l.at l.n 0) l.initial.q l.initial.out (entity_lines (held_lines l.left l.file) l.file (words_at l.file l.places l.depth) l.at (l.n - l.i) l.i) l.q l.out

abbrev pub decreases-pass_held : goal.decreases-pass_held
decreases-pass_held l = l.left + l.left
