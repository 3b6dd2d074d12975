-- A file was written: the rows that may lead to it are forgotten.
-- Assumes nothing.
use Rattle.std.specs.Prelude.{◌≡◌, Bool, true, false, List, ℕ, zero, suc, ◌+◌, ◌*◌, set}
use Rattle.number.specs.Choice.{when◌then◌else◌, ◌=?◌}
use Rattle.key.specs.Word.{same_word}
use Rattle.paths.specs.Path.{ending}
use Rattle.kept.specs.declared.Kept.{Kept}
use Rattle.kept.specs.Names.{link_state, forgotten_state, name_in, state_in, row_of}
use Rattle.kept.specs.Files.{is_found}

unfoldable pub same_ending : List ℕ → List ℕ → Bool
same_ending path name = same_word (ending path) (ending name)

-- row k may lead to the file at `path`: as a symbolic link, which can lead anywhere, or under a name with the same last part
unfoldable pub may_lead : List ℕ → List ℕ → List ℕ → ℕ → Bool
may_lead path rows store k = when state_in rows k =? link_state then true else same_ending path (name_in rows store k)

-- the table once the file at `path` was written: of the first n rows those that may lead to it are forgotten
unfoldable pub forgotten : List ℕ → List ℕ → List ℕ → ℕ → List ℕ
forgotten path rows store zero = rows
forgotten path rows store (suc k) =
    let before : List ℕ = forgotten path rows store k in
    when may_lead path rows store k then set before (4 * k + 3) forgotten_state else before

-- afterwards no name with the last part of `path` is found, and no row is found that might have led to the file there
pub record Forgot (path : List ℕ) (kept : Kept) (rows store table : List ℕ) : Type 0 where
  pub none : (name : List ℕ) → ending name ≡ ending path → is_found name kept table store ≡ false
  pub apart : (name : List ℕ) → is_found name kept table store ≡ true → may_lead path rows store (row_of name table store kept.rows) ≡ false
