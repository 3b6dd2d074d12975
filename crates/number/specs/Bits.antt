-- Bits of a byte.
-- Assumes nothing.
use Rattle.std.specs.Prelude.{ℕ, ◌/◌, ◌%◌}

-- 1 where the bit m, a power of two, is set in f, else 0
abbrev pub bit : ℕ → ℕ → ℕ
bit m f = f / m % 2

-- the bits below m, as a number: 0 where none is set
abbrev pub bits_below : ℕ → ℕ → ℕ
bits_below m f = f % m
