-- Texts of US-ASCII and of UTF-8.
-- Assumes nothing.
use Rattle.std.specs.Prelude.{Bool, true, false, List, [], ◌∷◌, ℕ, zero, suc, ◌+◌, length}
use Rattle.number.specs.Choice.{when◌then◌else◌, ◌<?◌, ◌=?◌}
use Rattle.utf8.specs.Utf8.{char_size}

-- each byte is below 0x80
unfoldable pub is_ascii : List ℕ → Bool
is_ascii [] = true
is_ascii (b ∷ w) = when b <? 0x80 then is_ascii w else false

-- where the characters from p on end, at most f of them
unfoldable pub chars_end : ℕ → List ℕ → ℕ → ℕ
chars_end zero w p = p
chars_end (suc f) w p = when char_size w p =? 0 then p else chars_end f w (p + char_size w p)

-- they are characters of RFC 3629 up to their end
unfoldable pub is_utf8 : List ℕ → Bool
is_utf8 w = chars_end (length w) w 0 =? length w
