-- Entries of a directory, by tables: the first use of each, how many uses stand before its descriptor, its descriptor's pointer, and its IID.
-- Assumes nothing.
use Rattle.std.specs.Prelude.{◌≡◌, List, ◌++◌, ℕ, ◌+◌, ◌*◌, ◌≤◌, ◌<◌, length, get_or}
use Rattle.number.specs.Limits.{entry_width, row_limit}
use Rattle.number.specs.Choice.{when◌then◌else◌, ◌=?◌}
use Rattle.reader.specs.Values.{Entry, entry_iid, no_entry}
use Rattle.meaning.specs.Normal.BigEndian.{bytes_of}
use Rattle.iids.specs.Cells.{cell}
use Rattle.iids.specs.Numbers.{number_in}
use Rattle.names.specs.Uses.{use_limit}
use Rattle.places.specs.Noted.{start_use, body_use}
use Rattle.pooling.specs.Tabled.{own_at}

-- the pointer to the namespace of an entry whose key has the uses from u up to e; 0 is the default
unfoldable pub space_of : (ℕ → ℕ) → ℕ → ℕ → ℕ
space_of at u e = when e =? u + 1 then 0 else at (u + 1)

-- IID, name pointer, namespace pointer, descriptor pointer
unfoldable pub row_of : ℕ → ℕ → ℕ → ℕ → List ℕ
row_of iid name space own = bytes_of 16 iid ++ bytes_of 4 name ++ bytes_of 4 space ++ bytes_of 4 own

pub record Listed (high low t starts before owns : List ℕ) (c : ℕ) (us : List (Entry ℕ)) : Type 0 where
  pub entries : c ≡ length us
  pub few : c ≤ row_limit
  pub row : (i : ℕ) → i < c → cell t i < row_limit
  pub uses : (i : ℕ) → i < c → start_use us i + 2 ≤ use_limit
  pub starting : (i : ℕ) → i < c → get_or starts i 0 ≡ start_use us i
  pub standing : (i : ℕ) → i < c → get_or before i 0 ≡ body_use us i
  pub pointed : (i : ℕ) → i < c → get_or owns i 0 ≡ own_at us i
  pub named : (i : ℕ) → i < c → number_in high low (cell t i) ≡ entry_iid (get_or us i no_entry)

-- there are such entries, and room for their directory
pub record ListFits (high low t starts before owns : List ℕ) (c limit : ℕ) : Type 0 where
  pub value : List (Entry ℕ)
  pub listed : Listed high low t starts before owns c value
  pub room : entry_width * c ≤ limit
