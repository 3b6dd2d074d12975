-- The lines of a text, and what is handed on for them.
-- Assumes nothing.
use Rattle.std.specs.Prelude.{List, [], ◌∷◌, map, ℕ, ◌+◌, length}
use Rattle.number.specs.Choice.{when◌then◌else◌, ◌≤?◌, ◌=?◌}

-- a byte before the first of these lines; where there is none, a line of its own
abbrev pub before_first : ℕ → List (List ℕ) → List (List ℕ)
before_first b [] = (b ∷ []) ∷ []
before_first b (l ∷ ls) = (b ∷ l) ∷ ls

-- what stands between newlines, in order; bytes after the last newline are a last line
unfoldable pub lines_of : List ℕ → List (List ℕ)
lines_of [] = []
lines_of (b ∷ text) = when b =? 10 then [] ∷ lines_of text else before_first b (lines_of text)

-- what is handed on for a line: its bytes, or that there are too many
pub data Item : Type 0 where
  line : List ℕ → Item
  too_long : Item

-- bytes of the longest line that is handed on
abbrev pub longest_line : ℕ
longest_line = 65535

-- bytes of the buffer: such a line and its newline
abbrev pub input_room : ℕ
input_room = longest_line + 1

unfoldable pub item_of : List ℕ → Item
item_of l = when length l ≤? longest_line then line l else too_long

-- for each line of a text one item, in order
unfoldable pub items_of : List ℕ → List Item
items_of text = map item_of (lines_of text)

-- what stands behind the first newline
unfoldable pub behind_newline : List ℕ → List ℕ
behind_newline [] = []
behind_newline (b ∷ text) = when b =? 10 then text else behind_newline text
