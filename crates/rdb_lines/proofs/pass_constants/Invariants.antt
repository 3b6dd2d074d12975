-- `rdb_lines::pass_constants` meets its contract. The loop's invariant: the lines from entry i on are left.
-- Assumes nothing.
use Rattle.std.specs.Prelude.{◌-◌, ◌≤◌}
use Rattle.rdb_list.specs.Listed.{constant_lines}
use Rattle.rdb_line.specs.Spelt.{words_at}
use Rattle.rdb_lines.specs.Walk.{Fit}
use Rattle.rdb_lines.proofs.WalkLaws.{Going}
use Rattle.rdb_lines.proofs.pass_constants.Given as goal

abbrev pub invariant-loop-i : goal.invariant-loop-i
invariant-loop-i l = (l.i ≤ l.n) × Fit l.from l.q × Going l.from (constant_lines l.file (words_at l.file l.places l.depth) l.at l.n 0) l.initial.q l.initial.out (constant_lines l.file (words_at l.file l.places l.depth) l.at (l.n - l.i) l.i) l.q l.out
