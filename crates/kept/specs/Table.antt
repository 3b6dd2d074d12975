-- The table of kept files.
-- Assumes nothing.
use Rattle.std.specs.Prelude.{◌≡◌, ℕ, ◌+◌, ◌*◌, ◌≤◌, ◌<◌, List, length, get_or}
use Rattle.kept.specs.declared.Kept.{Kept}
use Rattle.kept.specs.Room.{store_bytes}

-- the k-th row lies in the used part of the store: name start, name end, end of the bytes
abbrev pub RowInside : List ℕ → ℕ → ℕ → Type 0
RowInside rows used k = (get_or rows (4 * k) 0 ≤ get_or rows (4 * k + 1) 0) × ((get_or rows (4 * k + 1) 0 ≤ get_or rows (4 * k + 2) 0) × (get_or rows (4 * k + 2) 0 ≤ used))

-- the table has place for 64 rows; no more are in use, and each is inside the part of the store that is
pub record Tidy (rows : List ℕ) (kept : Kept) : Type 0 where
  pub whole : 256 ≡ length rows
  pub few : kept.rows ≤ 64
  pub room : kept.used ≤ store_bytes
  pub inside : (k : ℕ) → k < kept.rows → RowInside rows kept.used k
