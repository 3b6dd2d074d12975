-- The file of entries that tables tell, in a buffer.
-- Assumes nothing.
use Rattle.std.specs.Prelude.{◌≡◌, List, ℕ, ◌-◌, ◌≤◌, ◌<◌, length, get_or, Err, Ok, Result}
use Rattle.std.proofs.lemmas.List.Edits.{sets}
use Rattle.number.specs.Limits.{file_limit, entry_limit, row_limit}
use Rattle.reader.specs.Values.{Entry, entry_iid, no_entry}
use Rattle.meaning.specs.Normal.Minor.{minor_of}
use Rattle.iids.specs.Cells.{cell}
use Rattle.iids.specs.Numbers.{number_in}
use Rattle.meaning.specs.Stock.Uses.{normal_length}
use Rattle.meaning.specs.Stock.Form.{file_bytes}
use Rattle.gather.specs.Leading.{Leading}
use Rattle.output.specs.declared.Unstored.{Unstored}
use Rattle.output.specs.declared.Unstored.TheVariants.{Long, Short}

-- the tables lead to c entries, and tell their IIDs and their minor
pub record Ready (pool other : List ℕ) (n : ℕ) (names spaces bodies high low t : List ℕ) (minor c : ℕ) (us : List (Entry ℕ)) : Type 0 where
  pub leading : Leading pool other n names spaces bodies us c
  pub few : c ≤ entry_limit
  pub row : (i : ℕ) → i < c → cell t i < row_limit
  pub named : (i : ℕ) → i < c → number_in high low (cell t i) ≡ entry_iid (get_or us i no_entry)
  pub newest : minor ≡ minor_of us

-- the index that a reference becomes: place tells the index of every row
unfoldable pub place_of : List ℕ → ℕ → ℕ
place_of place r = cell place (r - 1)

-- the buffer has their file at its front and is as before after it, or it is as before: no file, or none in this buffer, has the room
abbrev pub Stores : List ℕ → List (Entry ℕ) → List ℕ → List ℕ → Result ℕ Unstored → Type 0
Stores place us before after (Err Long) = (file_limit < normal_length us) × (after ≡ before)
Stores place us before after (Err (Short n)) = (n ≡ normal_length us) × ((n ≤ file_limit) × ((length before < n) × (after ≡ before)))
Stores place us before after (Ok n) = (n ≡ normal_length us) × ((n ≤ file_limit) × ((n ≤ length before) × (after ≡ sets before 0 (file_bytes (place_of place) us))))
