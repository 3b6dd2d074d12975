-- `rdb_line::put_word` meets its contract. The loop's invariant: what is left of the word goes on from here. The measure is what is left of the file.
-- Assumes nothing.
use Rattle.std.specs.Prelude.{◌-◌, ◌<◌}
use Rattle.number.proofs.Tools.{length}
use Rattle.key.specs.Word.{word_end, word_at}
use Rattle.window.specs.Shown.{bytes_shown}
use Rattle.window.proofs.WindowLaws.{Going}
use Rattle.rdb_line.proofs.put_word.Given as goal

abbrev pub invariant-loop-i : goal.invariant-loop-i
invariant-loop-i l = (l.i < length l.file) × (word_end l.file l.i < length l.file) × Going l.from l.place (bytes_shown (word_at l.file l.q)) l.initial.out l.at (bytes_shown (word_at l.file l.i)) l.out

abbrev pub decreases-loop-i : goal.decreases-loop-i
decreases-loop-i l = length l.file - l.i
