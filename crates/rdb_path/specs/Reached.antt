-- What a check that accepted leaves known of a map and of what its entries lead to.
-- Assumes nothing.
use Rattle.std.specs.Prelude.{◌≡◌, List, ℕ, ◌+◌, ◌-◌, ◌≤◌, ◌<◌, length, get_or}
use Rattle.number.specs.Limits.{file_limit}
use Rattle.number.specs.Number.{le}
use Rattle.key.specs.Word.{word_end}
use Rattle.reading.specs.Got.{Got, Accepted}
use Rattle.rdb_interface.specs.declared.SetCount.{SetCount}
use Rattle.rdb_file.specs.Visit.{Sound, visit_entity}
use Rattle.rdb_file.specs.File.{read_file}
use Rattle.rdb_path.specs.Path.{payload_at}
use Rattle.rdb_map.specs.Map.{entry_bytes, entry_place}

-- the map at `at` has n entries in the file, and their keys have a NUL
pub record Keyed (s : List ℕ) (at n : ℕ) : Type 0 where
  pub room : (i : ℕ) → i < n → entry_place at i + entry_bytes ≤ length s
  pub ended : (i : ℕ) → i < n → word_end s (le 4 s (entry_place at i)) < length s

-- what each leads to passes `visit`
pub record Holds (visit : ℕ → ℕ → ℕ → Got Sound) (s : List ℕ) (at n : ℕ) : Type 0 where
  pub keyed : Keyed s at n
  pub leads : (i : ℕ) → i < n → (p v : ℕ) × Accepted (visit p (payload_at s at i) v)

-- the entity at o was visited
pub record Visited (m : SetCount) (s : List ℕ) (o : ℕ) : Type 0 where
  pub left : ℕ
  pub from : ℕ
  pub before : ℕ
  pub accepted : Accepted (visit_entity m left s from o before)

-- those of the map at `at` were
pub record Reached (m : SetCount) (s : List ℕ) (at n : ℕ) : Type 0 where
  pub left : ℕ
  pub holds : Holds (visit_entity m left s) s at n

-- the file was accepted, by one of the two readings
pub record Checked (s : List ℕ) : Type 0 where
  pub reading : SetCount
  pub small : length s ≤ file_limit
  pub accepted : Accepted (read_file reading s)

-- the last word of a path starts at r: there is no dot from there on, and one before it unless it is the only word
pub record LastWord (path : List ℕ) (r : ℕ) : Type 0 where
  pub within : r ≤ length path
  pub dot : 0 < r → get_or path (r - 1) 0 ≡ 0x2e
  pub none : (j : ℕ) → r ≤ j → j < length path → get_or path j 0 ≡ 0x2e → ⊥
