-- Signed numbers as natural ones, and natural ones as signed.
-- Assumes nothing.
use Rattle.std.specs.Prelude.{ℕ, ◌+◌, ◌-◌, ◌^◌, ℤ, pos, negsuc}
use Rattle.number.specs.Choice.{when◌then◌else◌, ◌<?◌}

-- the k bits of a number, two's complement
unfoldable pub bits_of : ℕ → ℤ → ℕ
bits_of k (pos n) = n
bits_of k (negsuc n) = 2 ^ k - 1 - n

-- a number, 0 where it is below 0
unfoldable pub or_zero : ℤ → ℕ
or_zero (pos n) = n
or_zero (negsuc n) = 0

-- a number of k + 1 bits as two's complement
unfoldable pub signed : ℕ → ℕ → ℤ
signed k v = when v <? 2 ^ k then pos v else negsuc (2 ^ (k + 1) - 1 - v)
