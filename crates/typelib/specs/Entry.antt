-- The entries of a file: what the directory says of each, with its descriptor.
-- Assumes nothing.
use Rattle.std.specs.Prelude.{List, [], ◌∷◌, ℕ, ◌+◌, ◌-◌, length, get_or}
use Rattle.std.proofs.Math.Option.{Option, none, some}
use Rattle.number.specs.Limits.{entry_width}
use Rattle.number.specs.Choice.{when◌then◌else◌, ◌<?◌, ◌=?◌}
use Rattle.number.specs.Number.{be}
use Rattle.reading.specs.Got.{Got, got, bad, next}
use Rattle.reading.specs.declared.Context.{Context}
use Rattle.key.specs.Key.{Key, key}
use Rattle.directory.specs.Directory.{Row, row}
use Rattle.descriptor.specs.Descriptor.{Descriptor, read_descriptor}

-- key, IID as one number of 16 bytes, descriptor; an entry with a descriptor is resolved
pub data Entry (R : Type 0) : Type 0 where
  entry : Key → ℕ → Option (Descriptor R) → Entry R
  deriving Discrete as Entry-discrete

unfoldable pub entry_key : {R : Type 0} → Entry R → Key
entry_key (entry k i d) = k

unfoldable pub entry_iid : {R : Type 0} → Entry R → ℕ
entry_iid (entry k i d) = i

unfoldable pub entry_descriptor : {R : Type 0} → Entry R → Option (Descriptor R)
entry_descriptor (entry k i d) = d

-- the descriptor of the directory entry at p: its pointer is tested with its descriptor
unfoldable pub read_own : Context → List ℕ → List ℕ → ℕ → Got (Option (Descriptor ℕ))
read_own c s pool p =
    when be 4 s (p + 24) =? 0 then got none (p + entry_width) else
    when length pool <? be 4 s (p + 24) then bad 13 (p + 24) else
    next (read_descriptor c pool (be 4 s (p + 24) - 1)) λ d _.
    got (some d) (p + entry_width)

-- the rows of the directory, each with its descriptor
unfoldable pub entries_of : List Row → List (Option (Descriptor ℕ)) → List (Entry ℕ)
entries_of [] ds = []
entries_of (row i k q ∷ rows) [] = entry k i none ∷ entries_of rows []
entries_of (row i k q ∷ rows) (d ∷ ds) = entry k i d ∷ entries_of rows ds

-- what stands past the end of the directory
unfoldable pub no_entry : Entry ℕ
no_entry = entry (key [] []) 0 none

unfoldable pub keys_in : List (Entry ℕ) → ℕ → Key
keys_in es i = entry_key (get_or es i no_entry)

unfoldable pub descriptor_in : List (Entry ℕ) → ℕ → Option (Descriptor ℕ)
descriptor_in es i = entry_descriptor (get_or es i no_entry)
