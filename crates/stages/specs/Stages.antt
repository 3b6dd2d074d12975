-- What the stages of a link know of two files' rows, which are counted through both files from 0: n of the first file, N of both.
-- Assumes nothing.
use Rattle.std.specs.Prelude.{◌≡◌, false, List, ℕ, ◌≤◌, ◌<◌}
use Rattle.number.specs.Scan.{some}
use Rattle.key.specs.First.{first_same, Filled}
use Rattle.sorting.specs.Table.{Rowed}
use Rattle.reader.specs.Records.{ShowsOwn}
use Rattle.meaning.specs.Meaning.{meaning}
use Rattle.meaning.specs.Facts.Link as facts
use Rattle.meaning.specs.Facts.Link.{link_entries}
use Rattle.meaning.specs.Stock.Uses.{normal_length}
use Rattle.rows.specs.Rows.{key_of_row, iid_of_row, descriptor_of_row, above_row}
use Rattle.iids.specs.Joined.{holder, held, joined, two_numbers, shared_number}
use Rattle.tables.specs.Chains.{endless_row, up_first}
use Rattle.iids.specs.Cells.{cell}
use Rattle.tables.specs.Tables.{Mates, Ordered, Placed}
use Rattle.iids.specs.Numbers.{Wide}
use Rattle.bridge.specs.Written.{Owned, two_meanings}
use Rattle.rows.specs.Files.{Pair}

-- P says which values are shown: Q holds of each of them
pub record Known {X : Type 0} (P Q : X → Type 0) : Type 0 where
  pub each : (x : X) → P x → Q x

-- ---- what a link of two files gives

-- 21 to 26, or the union
unfoldable pub link_pair : Pair → facts.Linked
link_pair x = link_entries normal_length (meaning x.first) (meaning x.second)

-- ---- what is known after each stage, of the files' entries x

-- keys holds the c rows whose key stood nowhere earlier, in rising order of key, and first for each row the first of its key
pub record Keyed (keys first : List ℕ) (c N : ℕ) (x : Pair) : Type 0 where
  pub rowed : Rowed (key_of_row x.first x.second) keys first c N

-- mates holds the mates of the first file's rows
pub record Mated (keys first mates : List ℕ) (c n N : ℕ) (x : Pair) : Type 0 where
  pub keyed : Keyed keys first c N x
  pub paired : Mates (key_of_row x.first x.second) n N (cell mates)

-- high and low hold the rows' IIDs
pub record Iids (high low : List ℕ) (N : ℕ) (x : Pair) : Type 0 where
  pub wide : Wide high low N (iid_of_row x.first x.second)

-- neither 21 nor 22 applies, and high and low hold the IIDs that rows and mates have together
pub record Numbered (keys first mates high low : List ℕ) (c n N : ℕ) (x : Pair) : Type 0 where
  pub mated : Mated keys first mates c n N x
  pub one_number : some (two_numbers (iid_of_row x.first x.second) (cell mates)) n ≡ false
  pub wide : Wide high low N (joined (iid_of_row x.first x.second) (cell mates) n)
  pub one_key : some (shared_number (first_same (key_of_row x.first x.second)) (joined (iid_of_row x.first x.second) (cell mates) n) N) n ≡ false

-- own holds the pool pointers of the rows' descriptors, 0 where there is none: those of the first n in one pool, the others in another
pub record Owns (pool pool2 own : List ℕ) (n N : ℕ) (x : Pair) : Type 0 where
  pub owned : Owned x.first x.second (cell own)
  pub low : (i : ℕ) → i < n → ShowsOwn pool (cell own i) (descriptor_of_row x.first x.second i)
  pub high : (i : ℕ) → n ≤ i → i < N → ShowsOwn pool2 (cell own i) (descriptor_of_row x.first x.second i)

-- what rows and mates are compared by
pub record Meets (pool pool2 first mates own : List ℕ) (n N : ℕ) (x : Pair) : Type 0 where
  pub firsts : Filled first N (first_same (key_of_row x.first x.second))
  pub paired : Mates (key_of_row x.first x.second) n N (cell mates)
  pub owns : Owns pool pool2 own n N x

-- 23 does not apply, and holders tells whose descriptors rows have, by the pool pointers of own
pub record Resolved (keys first high low holders : List ℕ) (c n N : ℕ) (x : Pair) : Type 0 where
  pub mates : List ℕ
  pub numbered : Numbered keys first mates high low c n N x
  pub one_meaning : some (two_meanings x.first x.second (cell mates)) n ≡ false
  pub own : List ℕ
  pub owned : Owned x.first x.second (cell own)
  pub held_by : Filled holders N (holder (cell own) (cell mates) n)

-- 24 does not apply: up tells the row above each
pub record Ended (keys first high low holders : List ℕ) (c n N : ℕ) (x : Pair) : Type 0 where
  pub resolved : Resolved keys first high low holders c n N x
  pub up : List ℕ
  pub rises : Filled up N (λ i. up_first (first_same (key_of_row x.first x.second)) (held (above_row x.first x.second) (holder (cell resolved.own) (cell resolved.mates) n i)))
  pub ends : some (endless_row (cell up) N) n ≡ false

-- t holds the rows of the union in its order, and place the index of each row there
pub record Arranged (t holders high low place : List ℕ) (c n N : ℕ) (x : Pair) : Type 0 where
  pub keys : List ℕ
  pub first : List ℕ
  pub ended : Ended keys first high low holders c n N x
  pub ordered : Ordered (key_of_row x.first x.second) (joined (iid_of_row x.first x.second) (cell ended.resolved.mates) n) N t c
  pub placed : Placed (key_of_row x.first x.second) N t c place
