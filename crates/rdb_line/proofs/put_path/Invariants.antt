-- `rdb_line::put_path` meets its contract. The loop's invariant: the first i words were passed. The measure is how many are left.
-- Assumes nothing.
use Rattle.std.specs.Prelude.{◌+◌, ◌-◌, ◌*◌, ◌≤◌}
use Rattle.window.specs.Window.{Passed}
use Rattle.rdb_line.specs.Text.{path_text}
use Rattle.rdb_line.specs.Spelt.{word_room, words_at}
use Rattle.rdb_line.proofs.put_path.Given as goal

abbrev pub invariant-loop-i : goal.invariant-loop-i
invariant-loop-i l = (l.i ≤ l.depth) × (l.at ≤ l.place + word_room * l.i) × Passed l.from l.place (path_text (words_at l.file l.places l.i)) l.initial.out l.at l.out

abbrev pub decreases-loop-i : goal.decreases-loop-i
decreases-loop-i l = l.depth - l.i
