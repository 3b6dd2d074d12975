-- Numbers of sixteen bytes in two tables: of their high and of their low eight bytes.
-- Assumes nothing.
use Rattle.std.specs.Prelude.{◌≡◌, List, ℕ, ◌+◌, ◌-◌, ◌*◌, ◌^◌, ◌≤◌, ◌<◌, length, get_or}
use Rattle.number.specs.Choice.{when◌then◌else◌, ◌=?◌}

unfoldable pub wide : ℕ → ℕ → ℕ
wide h l = h * 256 ^ 8 + l

-- that of row i
unfoldable pub number_in : List ℕ → List ℕ → ℕ → ℕ
number_in high low i = wide (get_or high i 0) (get_or low i 0)

-- the row that has the number which row i of the first file and its mate have together
unfoldable pub number_row : (ℕ → ℕ) → (ℕ → ℕ) → ℕ → ℕ
number_row g m i =
    when m i =? 0 then i else
    when g i =? 0 then m i - 1 else
    i

-- two tables hold the high and the low eight bytes of what g gives
pub record Wide (high low : List ℕ) (N : ℕ) (g : ℕ → ℕ) : Type 0 where
  pub long : N ≤ length high
  pub wide : N ≤ length low
  pub each : (i : ℕ) → i < N → get_or high i 0 * 256 ^ 8 + get_or low i 0 ≡ g i
  pub small : (i : ℕ) → i < N → get_or low i 0 < 256 ^ 8
