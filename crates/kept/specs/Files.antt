-- The files that are kept, by their names.
-- Assumes nothing.
use Rattle.std.specs.Prelude.{◌≡◌, Bool, true, List, [], ℕ, ◌+◌, ◌*◌, get_or}
use Rattle.number.specs.Choice.{when◌then◌else◌}
use Rattle.number.specs.Scan.{some}
use Rattle.number.specs.Part.{part}
use Rattle.kept.specs.declared.Kept.{Kept}
use Rattle.kept.specs.Names.{is_kept, row_of}

-- the bytes of row k
unfoldable pub bytes_in : List ℕ → List ℕ → ℕ → List ℕ
bytes_in rows store k = part store (get_or rows (4 * k + 1) 0) (get_or rows (4 * k + 2) 0)

-- a file is kept under this name
unfoldable pub is_found : List ℕ → Kept → List ℕ → List ℕ → Bool
is_found name kept rows store = some (is_kept name rows store) kept.rows

-- its bytes
unfoldable pub file_of : List ℕ → Kept → List ℕ → List ℕ → List ℕ
file_of name kept rows store = bytes_in rows store (row_of name rows store kept.rows)

-- those, or none where no file is kept under the name
unfoldable pub kept_file : List ℕ → Kept → List ℕ → List ℕ → List ℕ
kept_file name kept rows store = when is_found name kept rows store then file_of name kept rows store else []

-- every file that was found is still found, with the same bytes
pub record KeptOn (kept : Kept) (rows store : List ℕ) (after : Kept) (table text : List ℕ) : Type 0 where
  pub found : (name : List ℕ) → is_found name kept rows store ≡ true → is_found name after table text ≡ true
  pub bytes : (name : List ℕ) → is_found name kept rows store ≡ true → file_of name after table text ≡ file_of name kept rows store
