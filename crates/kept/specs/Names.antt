-- The names of the kept files, and the row that is found under a name.
-- Assumes nothing.
use Rattle.std.specs.Prelude.{Bool, false, List, ℕ, ◌+◌, ◌*◌, get_or, set}
use Rattle.number.specs.Choice.{when◌then◌else◌, ◌=?◌}
use Rattle.number.specs.Scan.{scan}
use Rattle.number.specs.Part.{part}
use Rattle.key.specs.Word.{same_word}
use Rattle.words.specs.declared.Span.{Span}
use Rattle.kept.specs.declared.Kept.{Kept}

-- the states of a row: of a file as it is named, of a symbolic link, and of a file that is no longer found
abbrev pub plain_state : ℕ
plain_state = 0

abbrev pub link_state : ℕ
link_state = 1

abbrev pub forgotten_state : ℕ
forgotten_state = 2

-- the name of row k
unfoldable pub name_in : List ℕ → List ℕ → ℕ → List ℕ
name_in rows store k = part store (get_or rows (4 * k) 0) (get_or rows (4 * k + 1) 0)

unfoldable pub state_in : List ℕ → ℕ → ℕ
state_in rows k = get_or rows (4 * k + 3) 0

-- row k is of this name and not forgotten
unfoldable pub is_kept : List ℕ → List ℕ → List ℕ → ℕ → Bool
is_kept name rows store k = when state_in rows k =? forgotten_state then false else same_word (name_in rows store k) name

-- the first of n rows that is; n where none is
unfoldable pub row_of : List ℕ → List ℕ → List ℕ → ℕ → ℕ
row_of name rows store n = scan (is_kept name rows store) n 0

-- the table with four numbers set, from number i on
unfoldable pub row_set : List ℕ → ℕ → ℕ → ℕ → ℕ → ℕ → List ℕ
row_set rows i from bytes end state = set (set (set (set rows i from) (i + 1) bytes) (i + 2) end) (i + 3) state

-- the table with one row more, of a file whose name starts where the used part of the store ends
unfoldable pub row_added : ℕ → Span → Kept → List ℕ → List ℕ
row_added state file kept rows = row_set rows (4 * kept.rows) kept.used file.from file.end state

-- what is kept then
unfoldable pub one_more : Span → Kept → Kept
one_more file kept = record { rows = kept.rows + 1; used = file.end }
