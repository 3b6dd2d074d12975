-- Which bytes of a file keep a text that has them from being US-ASCII, or UTF-8, by blocks of the file.
-- Assumes nothing.
use Rattle.std.specs.Prelude.{Bool, false, List, ℕ, ◌+◌, ◌-◌, length, get_or}
use Rattle.number.specs.Choice.{when◌then◌else◌, ◌<?◌, ◌≤?◌, ◌=?◌}
use Rattle.number.specs.Scan.{some}
use Rattle.utf8.specs.Utf8.{char_size}
use Rattle.rdb_stops.specs.Stops.{stop_count, Stops}

-- the byte at i is none of US-ASCII
unfoldable pub is_wide : List ℕ → ℕ → Bool
is_wide s i = 0x80 ≤? get_or s i 0

-- the character that starts at j, before i, has the byte at i
unfoldable pub reaches : List ℕ → ℕ → ℕ → Bool
reaches s i j = i - j <? char_size s j

-- a character of the file starts before i and ends after it
unfoldable pub is_inside : List ℕ → ℕ → Bool
is_inside s i = some (reaches s i) i

-- the byte at i is of no character of the file
unfoldable pub is_ill : List ℕ → ℕ → Bool
is_ill s i = when is_inside s i then false else char_size s i =? 0

-- how many bytes from i on are of a character: those of the one that starts there, or 1 inside another; 0 where that byte is of none
unfoldable pub good_bytes : List ℕ → ℕ → ℕ
good_bytes s i =
    when 0 <? char_size s i then char_size s i else
    when is_inside s i then 1 else
    0

-- numbers of both tables
abbrev pub run_count : ℕ
run_count = stop_count + stop_count

-- t has, for each block from k on, the first byte from its start on that is not US-ASCII, and the first that is ill
pub record Runs (s t : List ℕ) (k : ℕ) : Type 0 where
  pub ascii : Stops (is_wide s) (length s) t 0 k
  pub utf8 : Stops (is_ill s) (length s) t stop_count k
