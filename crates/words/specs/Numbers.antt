-- The number that a word spells in decimal.
-- Assumes nothing.
use Rattle.std.specs.Prelude.{Bool, false, List, ℕ, length, Err, Ok, Result}
use Rattle.number.specs.Choice.{when◌then◌else◌, ◌<?◌, ◌=?◌}
use Rattle.decimal.specs.Digits.{value_of}
use Rattle.words.specs.All.{all}
use Rattle.words.specs.declared.NumberError.{NumberError}
use Rattle.words.specs.declared.NumberError.TheVariants.{NotDecimal, TooLarge}

-- `0` to `9`
unfoldable pub is_decimal : ℕ → Bool
is_decimal b = when b <? 48 then false else b <? 58

-- v, where it is below 2^64
unfoldable pub within64 : ℕ → Result ℕ NumberError
within64 v = when v <? 18446744073709551616 then Ok v else Err TooLarge

-- a word with no bytes is not decimal; leading zeros change nothing
unfoldable pub number_of : List ℕ → Result ℕ NumberError
number_of w =
    when length w =? 0 then Err NotDecimal else
    when all is_decimal w then within64 (value_of w) else
    Err NotDecimal
