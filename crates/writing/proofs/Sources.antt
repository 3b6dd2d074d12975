-- Records that are shown, with what else is known of them and with room: from one form to another.
-- Assumes nothing.
use mathlib.Core.Path.{◌≡◌}
use mathlib.Core.List.{List, [], ◌∷◌}
use Prim.Native.Nat.{ℕ, ◌+◌, ◌≤◌}
use native.Mathlib.Omega.{arith}
use lib.ListN.{length}
use Rattle.reader.specs.Records.{Run}
use Rattle.reader.specs.Rules.{All}
use Rattle.reader.specs.Layout.{Stands, Rows}
use Rattle.writing.specs.Source.{Known}
use Rattle.writing.specs.Wrote.{Room}
use Rattle.writing.proofs.Lent.{rest, length-rest}

-- what has room stands
pub Room-Stands : {X : Type 0} {P : X → ℕ → Type 0} {size : X → ℕ} {n : ℕ} → Room P size n → Stands P
Room-Stands r = record { value = r.value; end = r.end; shown = r.shown }

-- what is known is shown
pub Known-Stands : {X : Type 0} {P : ℕ → X → ℕ → Type 0} {Q : X → Type 0} {p : ℕ} → Stands (Known P Q p) → Stands (P p)
Known-Stands s = record { value = s.value; end = s.end; shown = s.shown.shown }

-- records in turn, each with its fact
module _ {X : Type 0} (P : ℕ → X → ℕ → Type 0) (Q : X → Type 0) where
  pub Run-Known : (p : ℕ) (xs : List X) (e : ℕ) → Run P p xs e → All Q xs → Run (Known P Q) p xs e
  Run-Known p [] e r a = r
  Run-Known p (x ∷ xs) e r a = (r.0, record { shown = r.1; fact = a.0 }, Run-Known r.0 xs e r.2 a.1)

  pub Rows-Known : (n p : ℕ) (xs : List X) (e : ℕ) → n ≡ length xs → Run P p xs e → All Q xs → Rows (Known P Q) n p xs e
  Rows-Known n p xs e z r a = record { count = z; run = Run-Known p xs e r a }

-- less room is enough
pub Room-less : {X : Type 0} {P : X → ℕ → Type 0} {size : X → ℕ} {m : ℕ} (n : ℕ) → m ≤ n → Room P size m → Room P size n
Room-less n l r = record { value = r.value; end = r.end; shown = r.shown; room = omega (arith, l, r.room) }

-- in the part of l from k on
pub Room-lent : {X : Type 0} {P : X → ℕ → Type 0} {size : X → ℕ} {m : ℕ} (l : List ℕ) (k : ℕ) → m + k ≤ length l → Room P size m → Room P size (length (rest l k))
Room-lent l k h r = Room-less (length (rest l k)) (rw (length-rest l k) (omega arith)) r
