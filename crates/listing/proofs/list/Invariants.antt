-- `listing::list` meets its contract. The loop's invariant: what was printed, and what is left at the cursor, are the whole. The measure bounds the pieces left.
-- Assumes nothing.
use mathlib.Core.List.{List}
use Rattle.std.specs.Prelude.{◌≡◌}
use Rattle.number.proofs.Tools.{ℕ, length}
use Rattle.printed.specs.Listing.{printed_of}
use Rattle.lines.specs.Cursor.{turns, Printing}
use Rattle.listing.proofs.list.Given as goal

abbrev pub invariant-loop-l : goal.invariant-loop-l
invariant-loop-l l = ((done : List ℕ) × Printing l.file (printed_of l.file) l.l l.c done) × (65536 ≡ length l.out)

abbrev pub decreases-loop-l : goal.decreases-loop-l
decreases-loop-l l = turns l.l.count l.c
