-- Chains of rows, where `up` tells the row above each, and 1; 0 where there is none.
-- Assumes nothing.
use Rattle.std.specs.Prelude.{Bool, ℕ, suc, ◌+◌, ◌-◌}
use Rattle.number.specs.Choice.{when◌then◌else◌, ◌=?◌}
use Rattle.heights.specs.Climb.{goes_on}

-- 24, of row i of the first file, where up tells the row above each, and 1
unfoldable pub endless_row : (ℕ → ℕ) → ℕ → ℕ → Bool
endless_row up N i = goes_on up (suc N) i

-- the row above i, by the descriptor that it and its mate have, and 1: the first of its key; own tells which rows have a descriptor
unfoldable pub up_first : (ℕ → ℕ) → ℕ → ℕ
up_first first j = when j =? 0 then 0 else first (j - 1) + 1
