-- A file is asked for by its name.
-- Assumes nothing.
use Rattle.std.specs.Prelude.{◌≡◌, Bool, true, false, List, ℕ, ◌+◌, ◌≤◌, take, Err, Ok, Result, ℤ}
use Rattle.number.specs.Choice.{when◌then◌else◌}
use Rattle.number.specs.Part.{part}
use Rattle.input.specs.Came.{CameIn}
use Rattle.number.specs.Limits.{file_most}
use Rattle.input.specs.File.{is_input, FirstBytes}
use Rattle.kept.specs.declared.Kept.{Kept}
use Rattle.kept.specs.Table.{Tidy}
use Rattle.kept.specs.Room.{file_bytes}
use Rattle.kept.specs.Files.{is_found, file_of, KeptOn}
use Rattle.store.specs.declared.Loaded.{Loaded}
use Rattle.store.specs.declared.Loaded.TheVariants as loaded
use Rattle.store.specs.declared.Asked.{Asked}

-- standard input, where its lines are the batch's
unfoldable pub is_barred : Bool → List ℕ → Bool
is_barred batch name = when batch then is_input name else false

-- what stands in the store from `from` on is the file's
abbrev pub StandsFrom : List ℕ → ℕ → Result ℕ ℤ → List ℕ → Type 0
StandsFrom name from (Ok end) text = FirstBytes name file_most (part text from end)
StandsFrom name from (Err e) text = Unit {0}

-- the file of this name was read behind the bytes before `from`, which are as they were
pub record ReadBehind (name store : List ℕ) (from : ℕ) (r : Result ℕ ℤ) (text : List ℕ) : Type 0 where
  pub ends : CameIn from (from + file_most) r
  pub before : take from text ≡ take from store
  pub bytes : StandsFrom name from r text

-- the file is kept under its name; where it was not before, its bytes are those that were read of it
pub record Stands (name : List ℕ) (kept : Kept) (rows store : List ℕ) (after : Kept) (table text : List ℕ) : Type 0 where
  pub found : is_found name after table text ≡ true
  pub bytes : is_found name kept rows store ≡ false → FirstBytes name file_most (file_of name after table text)

-- the answer says where it is, whether standard input is not to be had, or why there is no such file
abbrev pub Answers : Bool → List ℕ → Kept → List ℕ → List ℕ → Kept → List ℕ → List ℕ → Loaded → Type 0
Answers barred name kept rows store after table text loaded.Kept = (barred ≡ false) × Stands name kept rows store after table text
Answers barred name kept rows store after table text loaded.InBatch = barred ≡ true
Answers barred name kept rows store after table text (loaded.Failed e) = barred ≡ false

-- after a file was asked for: every file that was kept is, no other name is found that was not, and at most one file more is kept
pub record Loads (barred : Bool) (name : List ℕ) (kept : Kept) (rows store : List ℕ) (r : Asked) (table text : List ℕ) : Type 0 where
  pub tidy : Tidy table r.kept
  pub keeps : KeptOn kept rows store r.kept table text
  pub others : (other : List ℕ) → (other ≡ name → ⊥) → is_found other kept rows store ≡ false → is_found other r.kept table text ≡ false
  pub file : Answers barred name kept rows store r.kept table text r.file
  pub few : r.kept.rows ≤ kept.rows + 1
  pub used : r.kept.used ≤ kept.used + file_bytes
