-- RFC 3629, section 3: the bytes of a character number, whatever section 4 says of them.
-- Assumes nothing.
use Rattle.std.specs.Prelude.{◌≡◌, ◌⊎◌, List, [], ◌∷◌, ℕ, ◌+◌, ◌/◌, ◌%◌, ◌≤◌, ◌<◌}
use Rattle.number.specs.Choice.{when◌then◌else◌, ◌<?◌}

-- a Unicode scalar value: a number up to 0x10ffff that is no surrogate
abbrev pub Scalar : ℕ → Type 0
Scalar v = (v < 0xd800) ⊎ ((0xe000 ≤ v) × (v < 0x110000))

-- six bits of a number in a tail
abbrev pub tail_of : ℕ → ℕ
tail_of v = 0x80 + v % 64

-- 7, 11, 16 or 21 bits in one to four bytes
unfoldable pub encoded : ℕ → List ℕ
encoded v =
    when v <? 0x80 then v ∷ [] else
    when v <? 0x800 then (0xc0 + v / 64) ∷ tail_of v ∷ [] else
    when v <? 0x10000 then (0xe0 + v / 4096) ∷ tail_of (v / 64) ∷ tail_of v ∷ [] else
    (0xf0 + v / 262144) ∷ tail_of (v / 4096) ∷ tail_of (v / 64) ∷ tail_of v ∷ []

-- w is the bytes of the scalar value v
pub record Spells (w : List ℕ) (v : ℕ) : Type 0 where
  pub scalar : Scalar v
  pub bytes : w ≡ encoded v
