-- `adopt::put_zeros` meets its contract. The loop's invariant: i zero bytes are stored from `at` on.
-- Assumes nothing.
use lib.ListN.{replicate}
use lib.Seq.{sets}
use Rattle.std.specs.Prelude.{◌≡◌}
use Rattle.number.proofs.Tools.{length}
use Rattle.adopt.proofs.put_zeros.Given as goal

abbrev pub invariant-loop-i : goal.invariant-loop-i
invariant-loop-i l = (length l.out ≡ length l.initial.out) × (l.out ≡ sets l.initial.out l.at (replicate l.i 0))
