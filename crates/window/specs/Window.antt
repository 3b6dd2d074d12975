-- A long text, made again for each buffer that shows a part of it: of its bytes, those from a place on, as many as the buffer has.
-- Assumes nothing.
use Rattle.std.specs.Prelude.{◌≡◌, List, [], ◌∷◌, ℕ, ◌+◌, ◌-◌, length, set}
use Rattle.number.specs.Choice.{when◌then◌else◌, ◌<?◌}

-- byte p of the text, in the buffer that shows it from byte `from` on; past the buffer's end it changes nothing
unfoldable pub byte_in : ℕ → ℕ → ℕ → List ℕ → List ℕ
byte_in from p b out = when p <? from then out else set out (p - from) b

-- the bytes w from byte p on
unfoldable pub window : ℕ → ℕ → List ℕ → List ℕ → List ℕ
window from p [] out = out
window from p (b ∷ w) out = window from (p + 1) w (byte_in from p b out)

-- place and text together stay at or below this, so that they can be counted
abbrev pub text_limit : ℕ
text_limit = 4611686018427387904

-- the bytes w were passed, from byte p on, and r is the byte after them
pub record Passed (from p : ℕ) (w before : List ℕ) (r : ℕ) (after : List ℕ) : Type 0 where
  pub next : r ≡ p + length w
  pub shown : after ≡ window from p w before
