-- Bytes as they are printed within a line of words: those from 0x21 to 0x7e but `\` as they are, others as `\x` and two hexadecimal digits, in lower case.
-- Assumes nothing.
use Rattle.std.specs.Prelude.{Bool, false, List, [], ◌∷◌, ◌++◌, ℕ}
use Rattle.number.specs.Choice.{when◌then◌else◌, ◌<?◌, ◌≠?◌}
use Rattle.text.specs.Hex.{hex_of}

unfoldable pub is_plain : ℕ → Bool
is_plain b =
    when b <? 0x21 then false else
    when 0x7e <? b then false else
    b ≠? 0x5c

-- `\x` and two hexadecimal digits
abbrev pub escaped : ℕ → List ℕ
escaped b = 0x5c ∷ 0x78 ∷ hex_of 2 b

unfoldable pub byte_shown : ℕ → List ℕ
byte_shown b = when is_plain b then b ∷ [] else escaped b

unfoldable pub bytes_shown : List ℕ → List ℕ
bytes_shown [] = []
bytes_shown (b ∷ w) = byte_shown b ++ bytes_shown w
