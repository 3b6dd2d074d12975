-- A path as the code holds it: the places of the map entries that lead there.
-- Assumes nothing.
use Rattle.std.specs.Prelude.{List, [], ◌∷◌, ◌++◌, ℕ, zero, suc, ◌+◌, ◌%◌, ◌≤◌, ◌<◌, ◌≡◌, length, get_or}
use Rattle.number.specs.Number.{le}
use Rattle.key.specs.Word.{word_end}
use Rattle.rdb_map.specs.Map.{entry_bytes, key_at}
use Rattle.rdb_record.specs.Constant.{value_size}
use Rattle.rdb_list.specs.Listed.{Line, entity_line, constant_line, value_in}
use Rattle.rdb_line.specs.declared.Target.{Target}
use Rattle.rdb_line.specs.declared.Target.TheVariants.{Entity, Constant}

-- words of a path
abbrev pub path_limit : ℕ
path_limit = 18

-- a word as it is printed, and a dot; no byte gives more than four
abbrev pub word_room : ℕ
word_room = 4194305

-- no line is longer: its words, and what stands before them
abbrev pub line_room : ℕ
line_room = 75497600

-- counted from the first line that a buffer shows, a line begins at or below this
abbrev pub place_limit : ℕ
place_limit = 4294967296

-- the words of a path: the keys of the first d entries
unfoldable pub words_at : List ℕ → List ℕ → ℕ → List (List ℕ)
words_at s ps zero = []
words_at s ps (suc d) = words_at s ps d ++ (key_at s (get_or ps d 0) ∷ [])

-- the first d entries lie in the file, and their keys have a NUL
pub record Spelt (s ps : List ℕ) (d : ℕ) : Type 0 where
  pub long : length ps ≡ path_limit
  pub few : d ≤ path_limit
  pub room : (i : ℕ) → i < d → get_or ps i 0 + entry_bytes ≤ length s
  pub ended : (i : ℕ) → i < d → word_end s (le 4 s (get_or ps i 0)) < length s

-- the line of what the words lead to
unfoldable pub line_of : List ℕ → List (List ℕ) → Target → Line
line_of s ws (Entity o) = entity_line ws (get_or s o 0) o
line_of s ws (Constant o) = constant_line ws (value_in s o)

-- it lies in the file
abbrev pub Stored : List ℕ → Target → Type 0
Stored s (Entity o) = o < length s
Stored s (Constant o) = o + 1 + value_size (get_or s o 0 % 128) ≤ length s
