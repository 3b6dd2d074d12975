-- A table of bits, one for each number.
-- Assumes nothing.
use Rattle.std.specs.Prelude.{◌≡◌, Bool, true, List, ℕ, ◌/◌, ◌%◌, ◌^◌, length, get_or}
use Rattle.number.specs.Choice.{when◌then◌else◌, ◌=?◌}

-- bit j of a cell is 1
unfoldable pub is_set : ℕ → ℕ → Bool
is_set x j = x / 2 ^ j % 2 =? 1

-- number i is marked
unfoldable pub marked : List ℕ → ℕ → Bool
marked t i = is_set (get_or t (i / 32) 0) (i % 32)

-- a table after i was marked: i is, and of the others those that were; only the cell of i has changed
pub record Marking (t : List ℕ) (i : ℕ) (after : List ℕ) : Type 0 where
  pub each : (j : ℕ) → marked after j ≡ (when j =? i then true else marked t j)
  pub cells : (j : ℕ) → (j ≡ i / 32 → ⊥) → get_or after j 0 ≡ get_or t j 0
  pub size : length after ≡ length t
