-- A word as it is shown to people: without the control bytes of ASCII, so that none ends the line. Controls that UTF-8 writes in two bytes stand as they are.
-- Assumes nothing.
use Rattle.std.specs.Prelude.{List, [], ◌∷◌, ℕ}
use Rattle.number.specs.Choice.{when◌then◌else◌, ◌<?◌, ◌=?◌}

-- `?` for a control byte
unfoldable pub shown_byte : ℕ → ℕ
shown_byte b =
    when b <? 32 then 63 else
    when b =? 127 then 63 else
    b

unfoldable pub shown_word : List ℕ → List ℕ
shown_word [] = []
shown_word (b ∷ w) = shown_byte b ∷ shown_word w
