-- The words of uses that are stored: those of the uses whose place is the pool pointer reached.
-- Assumes nothing.
use Rattle.std.specs.Prelude.{Bool, List, [], ◌++◌, ℕ, zero, suc, ◌+◌}
use Rattle.number.specs.Choice.{◌=?◌}
use Rattle.meaning.specs.Stock.Uses.{kept_size}
use Rattle.meaning.specs.Stock.Form.{kept_bytes}

-- the place of use u is the pool pointer p
unfoldable pub reached : (ℕ → ℕ) → ℕ → ℕ → Bool
reached at p u = at u =? p

-- of n uses from u on, from the pool pointer p on
unfoldable pub uses_with : (ℕ → ℕ) → (ℕ → List ℕ) → ℕ → ℕ → ℕ → List ℕ
uses_with at word zero u p = []
uses_with at word (suc n) u p = kept_bytes (reached at p) u (word u) ++ uses_with at word n (u + 1) (p + kept_size (reached at p) u (word u))
