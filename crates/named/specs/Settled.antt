-- After a line that writes a file, nothing is kept that may be that file.
-- Assumes nothing.
use Rattle.std.specs.Prelude.{◌≡◌, true, false, List, ℕ}
use Rattle.kept.specs.declared.Kept.{Kept}
use Rattle.kept.specs.Table.{Tidy}
use Rattle.kept.specs.Files.{is_found}
use Rattle.paths.specs.Path.{ending}
use Rattle.tasks.specs.Tasks.{task_of, is_writing, output_word}

-- the table is tidy, and no name is found that ends in the last part of what the line writes
pub record Settled (separator : ℕ) (line : List ℕ) (kept : Kept) (rows store : List ℕ) : Type 0 where
  pub tidy : Tidy rows kept
  pub gone : is_writing (task_of separator line) ≡ true → (name : List ℕ) → ending name ≡ ending (output_word separator line) → is_found name kept rows store ≡ false
