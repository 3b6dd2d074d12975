-- A text that is one line.
-- Assumes nothing.
use Rattle.std.specs.Prelude.{◌≡◌, Bool, true, not, ◌&&◌, List, [], ◌∷◌, ◌++◌, ℕ, eqb, leb}
use Rattle.text.specs.Line.{newline}

-- no control byte
abbrev pub is_plain : ℕ → Bool
is_plain b = leb 32 b && not (eqb b 127)

abbrev pub all_plain : List ℕ → Bool
all_plain [] = true
all_plain (b ∷ w) = is_plain b && all_plain w

unfoldable pub Plain : List ℕ → Type 0
Plain w = all_plain w ≡ true

-- a newline ends it, and no control byte stands before that
pub record OneLine (line : List ℕ) : Type 0 where
  pub words : List ℕ
  pub is : line ≡ words ++ newline
  pub plain : Plain words
