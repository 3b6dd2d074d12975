-- The entries of two files as rows, counted from 0: those of the first file, then those of the second.
-- Assumes nothing.
use Rattle.std.specs.Prelude.{List, ℕ, ◌+◌, ◌-◌, length, get_or}
use Rattle.std.proofs.Math.Option.{Option}
use Rattle.number.specs.Choice.{when◌then◌else◌, ◌<?◌, ◌=?◌}
use Rattle.key.specs.Key.{Key}
use Rattle.reader.specs.Values.{Entry, entry_key, entry_iid, entry_descriptor, no_entry, Descriptor, above_in}

-- row i of two directories
unfoldable pub row_of : List (Entry ℕ) → List (Entry ℕ) → ℕ → Entry ℕ
row_of es fs i = when i <? length es then get_or es i no_entry else get_or fs (i - length es) no_entry

unfoldable pub key_of_row : List (Entry ℕ) → List (Entry ℕ) → ℕ → Key
key_of_row es fs i = entry_key (row_of es fs i)

unfoldable pub iid_of_row : List (Entry ℕ) → List (Entry ℕ) → ℕ → ℕ
iid_of_row es fs i = entry_iid (row_of es fs i)

unfoldable pub descriptor_of_row : List (Entry ℕ) → List (Entry ℕ) → ℕ → Option (Descriptor ℕ)
descriptor_of_row es fs i = entry_descriptor (row_of es fs i)

-- the reference r of a descriptor of row i as a row, and 1: that of the second file's entries lie behind those of the first
unfoldable pub reference_in : ℕ → ℕ → ℕ → ℕ
reference_in n i r = when i <? n then r else n + r

-- the row above row i by its own descriptor, and 1; 0 where there is none
unfoldable pub above_row : List (Entry ℕ) → List (Entry ℕ) → ℕ → ℕ
above_row es fs i =
    when i <? length es then above_in es i else
    when above_in fs (i - length es) =? 0 then 0 else
    length es + above_in fs (i - length es)
