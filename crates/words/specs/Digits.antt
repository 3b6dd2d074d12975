-- The bytes that a word spells in base 16, in lower or upper case.
-- Assumes nothing.
use Rattle.std.specs.Prelude.{Bool, true, false, List, [], ◌∷◌, ℕ, ◌+◌, ◌-◌, ◌*◌, ◌%◌, length, Err, Ok, Result}
use Rattle.number.specs.Choice.{when◌then◌else◌, ◌<?◌, ◌=?◌}
use Rattle.words.specs.All.{all}
use Rattle.words.specs.declared.HexError.{HexError}
use Rattle.words.specs.declared.HexError.TheVariants.{OtherLength, NotHex}

-- `0` to `9`, `A` to `F`, `a` to `f`
unfoldable pub is_hex : ℕ → Bool
is_hex b =
    when b <? 48 then false else
    when b <? 58 then true else
    when b <? 65 then false else
    when b <? 71 then true else
    when b <? 97 then false else
    b <? 103

-- the number of one digit
unfoldable pub digit_value : ℕ → ℕ
digit_value b =
    when b <? 58 then b - 48 else
    when b <? 71 then b - 55 else
    b - 87

-- a byte for each two digits, the first of them the higher; a digit left over gives none
unfoldable pub bytes_of : List ℕ → List ℕ
bytes_of [] = []
bytes_of (h ∷ []) = []
bytes_of (h ∷ (l ∷ ds)) = (digit_value h * 16 + digit_value l) ∷ bytes_of ds

-- 32 digits are the sixteen bytes of an IID; no digits, or any other even number of them, another length
unfoldable pub hex_of : List ℕ → Result Unit HexError
hex_of w =
    when length w % 2 =? 1 then Err NotHex else
    when all is_hex w then (when length w =? 32 then Ok tt else Err OtherLength) else
    Err NotHex

-- what stands where the bytes go: the bytes of a whole word, else what stood there before
unfoldable pub filled_with : Result Unit HexError → List ℕ → List ℕ → List ℕ
filled_with (Ok tt) bytes before = bytes
filled_with (Err OtherLength) bytes before = before
filled_with (Err NotHex) bytes before = before
