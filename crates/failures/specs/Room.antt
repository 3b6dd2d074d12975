-- The buffer that a line for people is made in, and what a maker of one promises.
-- Assumes nothing.
use Rattle.std.specs.Prelude.{◌≡◌, List, ℕ, ◌≤◌, length}
use Rattle.std.proofs.lemmas.List.Edits.{sets}

-- bytes of the buffer: those of the words of a line, and 1,024 around them
abbrev pub room : ℕ
room = 66560

-- bytes of the words of a line together
abbrev pub word_limit : ℕ
word_limit = 65536

-- the line is at the front of the buffer, nothing else was changed, and r is its length
pub record Made (line before : List ℕ) (r : ℕ) (after : List ℕ) : Type 0 where
  pub long : r ≡ length line
  pub fits : r ≤ room
  pub stored : after ≡ sets before 0 line
