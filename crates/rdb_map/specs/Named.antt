-- The first entries of a map, as they were read.
-- Assumes nothing.
use Rattle.std.specs.declared.cmp.Ordering.TheVariants.{Less}
use Rattle.reading.specs.declared.Refusal.{Refusal}
use Rattle.std.specs.Prelude.{◌≡◌, List, ℕ, ◌+◌, ◌≤◌, ◌<◌, length, Err, Ok, Option, Result, Some}
use Rattle.number.specs.Number.{le}
use Rattle.key.specs.Word.{word_end, compare_words}
use Rattle.rdb_stops.specs.Stops.{name_end}
use Rattle.sorting.specs.Table.{Sorted}
use Rattle.reading.specs.Got.{step_of}
use Rattle.rdb_map.specs.Map.{entry_place, key_at, read_entry}
use Rattle.rdb_map.specs.Table.{name_in}

-- the name fields of the first n entries of the map at `at` lie in the file and lead to names of US-ASCII with a NUL
pub record Named (s : List ℕ) (at n : ℕ) : Type 0 where
  pub field : (j : ℕ) → j < n → entry_place at j + 4 ≤ length s
  pub ended : (j : ℕ) → j < n → word_end s (le 4 s (entry_place at j)) < length s
  pub plain : (j : ℕ) → j < n → name_end s (le 4 s (entry_place at j)) ≡ word_end s (le 4 s (entry_place at j))

-- and the names of the first n rise by their bytes
pub record Rising (s : List ℕ) (at n : ℕ) : Type 0 where
  pub each : (i j : ℕ) → i < j → j < n → compare_words (key_at s (entry_place at i)) (key_at s (entry_place at j)) ≡ Less

-- entry k of the map at `at` was read with the answer r, and if it is good, t has the entries up to it in order
pub record EntryChecked (s : List ℕ) (at hold v k : ℕ) (r : Result ℕ Refusal) (t : List ℕ) : Type 0 where
  pub step : r ≡ step_of (read_entry s at hold v (entry_place at k))
  pub sorted : (e : ℕ) → r ≡ Ok e → Sorted (name_in s at) t (k + 1) (k + 1)

-- the same after names that rise, and if it is good, so does its own; where that is not seen, `None`, nothing is said
pub record RiseChecked (s : List ℕ) (at hold v k : ℕ) (w : Result (Option ℕ) Refusal) : Type 0 where
  pub read : (e : ℕ) → w ≡ Ok (Some e) → Ok e ≡ step_of (read_entry s at hold v (entry_place at k))
  pub refused : (y : Refusal) → w ≡ Err y → Err y ≡ step_of (read_entry s at hold v (entry_place at k))
  pub rising : (e : ℕ) → w ≡ Ok (Some e) → Rising s at (k + 1)
