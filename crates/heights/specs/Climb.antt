-- Chains of rows, where `up` tells the row above each, counted from 1; 0 where there is none.
-- Assumes nothing.
use Rattle.std.specs.Prelude.{◌≡◌, Bool, List, ℕ, zero, suc, ◌+◌, ◌-◌, ◌≤◌, ◌<◌, get_or}
use Rattle.number.specs.Choice.{when◌then◌else◌, ◌=?◌, ◌≠?◌}

-- so many steps up from a row, and 1; 0 is none
unfoldable pub climb_rows : ℕ → (ℕ → ℕ) → ℕ → ℕ
climb_rows zero up j = j
climb_rows (suc k) up j = when j =? 0 then 0 else climb_rows k up (up (j - 1))

-- k steps up from row i do not come to the end of its chain
unfoldable pub goes_on : (ℕ → ℕ) → ℕ → ℕ → Bool
goes_on up k i = climb_rows k up (i + 1) ≠? 0

-- the table as what stands above each row
unfoldable pub row_above : List ℕ → ℕ → ℕ
row_above t i = get_or t i 0

-- h steps, and no fewer, come to the end
pub record Height (up : ℕ → ℕ) (j h : ℕ) : Type 0 where
  pub ends : climb_rows h up j ≡ 0
  pub least : (m : ℕ) → m < h → climb_rows m up j ≡ 0 → ⊥

-- each of the first n rows has above it one of them, or none
pub record Within (t : List ℕ) (n : ℕ) : Type 0 where
  pub each : (i : ℕ) → i < n → get_or t i 0 ≤ n

-- a number in `heights` that is not 0 is the height of its row
pub record Noted (t heights : List ℕ) : Type 0 where
  pub each : (i : ℕ) → (get_or heights i 0 ≡ 0 → ⊥) → Height (row_above t) (i + 1) (get_or heights i 0)

-- r is the height of row i, if k steps suffice; else it is more than k
pub record Climbed (up : ℕ → ℕ) (k i r : ℕ) : Type 0 where
  pub height : r ≤ k → Height up (i + 1) r
  pub more : k < r → climb_rows k up (i + 1) ≡ 0 → ⊥
