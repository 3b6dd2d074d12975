-- Where a file stands in the store.
-- Assumes nothing.
use Rattle.std.specs.Prelude.{◌≡◌, List, ℕ, ◌≤◌}
use Rattle.number.specs.Part.{part}
use Rattle.words.specs.declared.Span.{Span}
use Rattle.kept.specs.declared.Kept.{Kept}
use Rattle.kept.specs.Room.{store_bytes}
use Rattle.kept.specs.Files.{kept_file}

-- s is the place in the store of the file of this name, or of no bytes
pub record Lies (name : List ℕ) (kept : Kept) (rows store : List ℕ) (s : Span) : Type 0 where
  pub ordered : s.from ≤ s.end
  pub inside : s.end ≤ store_bytes
  pub bytes : part store s.from s.end ≡ kept_file name kept rows store
