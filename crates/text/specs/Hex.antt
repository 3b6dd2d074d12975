-- A number in base 16, as ASCII codes, in lower case.
-- Assumes nothing.
use Rattle.std.specs.Prelude.{List, [], ◌∷◌, ◌++◌, ℕ, zero, suc, ◌+◌, ◌/◌, ◌%◌}
use Rattle.number.specs.Choice.{when◌then◌else◌, ◌<?◌}

-- `0` to `9`, `a` to `f`
unfoldable pub hex_digit : ℕ → ℕ
hex_digit d = when d <? 10 then 48 + d else 87 + d

-- the last k digits of v, the most significant first
unfoldable pub hex_of : ℕ → ℕ → List ℕ
hex_of zero v = []
hex_of (suc k) v = hex_of k (v / 16) ++ (hex_digit (v % 16) ∷ [])
