-- Document 01, "Rules between fields": constructors and getter pairs, of n own methods with flags f and names w by position.
-- Assumes nothing.
use Rattle.std.specs.Prelude.{Bool, false, List, ℕ, ◌+◌}
use Rattle.number.specs.Bits.{bit}
use Rattle.number.specs.Choice.{when◌then◌else◌, ◌<?◌, ◌=?◌, ◌≠?◌}
use Rattle.number.specs.Scan.{some, tally}
use Rattle.key.specs.Word.{same_word}
use Rattle.method.specs.Flags.{getter_bit, setter_bit, constructor_bit}

unfoldable pub is_constructor : (ℕ → ℕ) → ℕ → Bool
is_constructor f i = bit constructor_bit (f i) =? 1

-- one interface has at most one constructor
unfoldable pub many_constructors : (ℕ → ℕ) → ℕ → Bool
many_constructors f n = 1 <? tally (is_constructor f) n

unfoldable pub is_getter : (ℕ → ℕ) → ℕ → Bool
is_getter f i = bit getter_bit (f i) =? 1

unfoldable pub is_setter : (ℕ → ℕ) → ℕ → Bool
is_setter f i = bit setter_bit (f i) =? 1

-- own method i is a getter and own method j a setter of the same name, and j is not i + 1
unfoldable pub stray_pair : (ℕ → ℕ) → (ℕ → List ℕ) → ℕ → ℕ → Bool
stray_pair f w i j =
    when is_getter f i then (
    when is_setter f j then (
    when same_word (w i) (w j) then j ≠? i + 1 else
    false) else
    false) else
    false

unfoldable pub stray_getter : (ℕ → ℕ) → (ℕ → List ℕ) → ℕ → ℕ → Bool
stray_getter f w n i = some (stray_pair f w i) n

unfoldable pub stray_pairs : (ℕ → ℕ) → (ℕ → List ℕ) → ℕ → Bool
stray_pairs f w n = some (stray_getter f w n) n
