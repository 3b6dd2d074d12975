-- What the writers are given: records that a pool shows, whose references the table of places knows.
-- Assumes nothing.
use Rattle.std.specs.Prelude.{List, ℕ, ◌+◌, ◌-◌, ◌≤◌, get_or}
use Rattle.number.specs.Limits.{row_limit}
use Rattle.reader.specs.Values.{Method}
use Rattle.meaning.specs.Refs.{MethodRefs}

-- a record that is shown, and of which Q holds
pub record Known {X : Type 0} (P : ℕ → X → ℕ → Type 0) (Q : X → Type 0) (p : ℕ) (x : X) (e : ℕ) : Type 0 where
  pub shown : P p x e
  pub fact : Q x

-- the index that the reference r becomes: the table of places has `shift` entries before those of r's file
unfoldable pub renumber : List ℕ → ℕ → ℕ → ℕ
renumber place shift r = get_or place (shift + r - 1) 0

-- a table of 2,048 places knows the reference r
abbrev pub InTable : ℕ → ℕ → Type 0
InTable shift r = (1 ≤ r) × (shift + r ≤ row_limit)

abbrev pub MethodFit : ℕ → Method ℕ → Type 0
MethodFit shift = MethodRefs (InTable shift)
