-- The lines of `xpt rdb list`, which the issue of request #105 asks for: `E KIND OFFSET PATH` for an entity, `C TYPE VALUE PATH` for a constant.
-- Assumes nothing.
use Rattle.std.specs.Prelude.{List, [], ◌∷◌, ◌++◌, ℕ}
use Rattle.number.specs.Choice.{when◌then◌else◌, ◌=?◌}
use Rattle.ascii.specs.Ascii.{ascii}
use Rattle.decimal.specs.Digits.{digits_of}
use Rattle.text.specs.Line.{space, newline}
use Rattle.rdb_path.specs.Path.{joined}
use Rattle.rdb_list.specs.Listed.{Line, entity_line, constant_line}
use Rattle.rdb_shown.specs.Texts.{value_text}
use Rattle.window.specs.Shown.{bytes_shown}

-- its words, joined by dots
unfoldable pub path_text : List (List ℕ) → List ℕ
path_text ws = bytes_shown (joined ws)

-- what word i adds
unfoldable pub step_text : ℕ → List ℕ → List ℕ
step_text i w = when i =? 0 then bytes_shown w else ascii "." ++ bytes_shown w

-- ` PATH`, with the newline
unfoldable pub path_end : List (List ℕ) → List ℕ
path_end ws = (space ++ path_text ws) ++ newline

unfoldable pub line_text : Line → List ℕ
line_text (entity_line ws k o) = ((ascii "E " ++ digits_of k) ++ (space ++ digits_of o)) ++ path_end ws
line_text (constant_line ws v) = (ascii "C " ++ value_text v) ++ path_end ws

unfoldable pub lines_text : List Line → List ℕ
lines_text [] = []
lines_text (x ∷ xs) = line_text x ++ lines_text xs
