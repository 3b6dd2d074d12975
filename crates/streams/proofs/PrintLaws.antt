-- Lines that were made and written.
-- Assumes nothing.
use mathlib.Core.Path.{◌≡◌, ap, subst, ◌∙◌}
use mathlib.Core.Bool.{Bool}
use mathlib.Core.List.{List}
use Prim.Native.Nat.{ℕ, ◌≤◌}
use lib.ListN.{length, take}
use native.Mathlib.Omega.{arith}
use Rattle.decimal.proofs.Stores.{front, length_kept}
use Rattle.failures.specs.Room.{Made}
use Rattle.streams.specs.Printed.{Front, Prints}

-- a line at the front of a buffer
pub line_stored : (line buf : List ℕ) (n : ℕ) → Front line n buf → n ≤ length buf → take n buf ≡ line
line_stored line buf n f h =
    ap (λ (k : ℕ). take k buf) f.long
    ∙ ap (take (length line)) f.stored
    ∙ front f.before line (omega (arith, f.long, length_kept f.before line 0 f.stored))

pub Prints-line : (line buf : List ℕ) (n : ℕ) (all : Bool) → Front line n buf → n ≤ length buf → Prints (take n buf) all → Prints line all
Prints-line line buf n all f h p = subst (λ (l : List ℕ). Prints l all) (line_stored line buf n f h) p

pub Made-Front : (line before buf : List ℕ) (n : ℕ) → Made line before n buf → Front line n buf
Made-Front line before buf n m = record { long = m.long; before = before; stored = m.stored }
