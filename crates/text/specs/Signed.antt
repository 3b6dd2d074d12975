-- The text of a number that may be below zero.
-- Assumes nothing.
use Rattle.std.specs.Prelude.{List, ◌++◌, ℕ, ◌+◌, ℤ, pos, negsuc}
use Rattle.decimal.specs.Digits.{digits_of}
use Rattle.text.specs.Line.{hyphen}

unfoldable pub signed_text : ℤ → List ℕ
signed_text (pos n) = digits_of n
signed_text (negsuc n) = hyphen ++ digits_of (n + 1)
