-- The entries that tables tell of the rows of two files, which are counted through both files from 0.
-- Assumes nothing.
use Rattle.std.specs.Prelude.{List, ℕ, ◌≤◌, ◌<◌}
use Rattle.std.proofs.Math.Option.{Option}
use Rattle.number.specs.Limits.{entry_limit}
use Rattle.key.specs.Key.{Key}
use Rattle.reader.specs.Values.{Descriptor, Entry, entry}
use Rattle.iids.specs.Cells.{cell}
use Rattle.rows.specs.Rows.{key_of_row}
use Rattle.rows.specs.Files.{Pair}
use Rattle.bridge.specs.Span.{span}
use Rattle.bridge.specs.Written.{held_in, counted_of}

unfoldable pub row_key : Pair → ℕ → Key
row_key x r = key_of_row x.first x.second r

-- the descriptor of the row that h tells, counted from 1, with its references counted through both files; none where h is 0
unfoldable pub row_own : Pair → ℕ → Option (Descriptor ℕ)
row_own x h = held_in (counted_of x.first x.second) h

-- the entry of row r, with this IID, and with the descriptor of the row that h tells
unfoldable pub entry_of : Pair → ℕ → ℕ → ℕ → Entry ℕ
entry_of x r iid h = entry (row_key x r) iid (row_own x h)

-- where `iid` tells the IID of each row, and `holder` the row whose descriptor it has
unfoldable pub view_entry : Pair → (ℕ → ℕ) → (ℕ → ℕ) → ℕ → Entry ℕ
view_entry x iid holder r = entry_of x r (iid r) (holder r)

-- of the first c rows of t
unfoldable pub view_entries : Pair → (ℕ → ℕ) → (ℕ → ℕ) → List ℕ → ℕ → List (Entry ℕ)
view_entries x iid holder t c = span (λ q. view_entry x iid holder (cell t q)) c

-- c of n rows stand in t, and `holders` tells of every row one of them, or 0
pub record Viewed (n : ℕ) (t holders : List ℕ) (c : ℕ) : Type 0 where
  pub few : c ≤ entry_limit
  pub rows : (q : ℕ) → q < c → cell t q < n
  pub held : (r : ℕ) → r < n → cell holders r ≤ n
