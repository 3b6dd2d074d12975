-- What a writer into a lent buffer promises.
-- Assumes nothing.
use Rattle.std.specs.Prelude.{◌≡◌, List, ℕ, ◌+◌, ◌≤◌, length}
use Rattle.std.proofs.lemmas.List.Edits.{sets}

-- the bytes were stored from `at` on, nothing else was changed, and r is the place after them
pub record Wrote (before : List ℕ) (at : ℕ) (bytes : List ℕ) (r : ℕ) (after : List ℕ) : Type 0 where
  pub next : r ≡ at + length bytes
  pub stored : after ≡ sets before at bytes

-- so many bytes from `at` on lie in the buffer
abbrev pub Room : List ℕ → ℕ → ℕ → Type 0
Room out at n = at + n ≤ length out
