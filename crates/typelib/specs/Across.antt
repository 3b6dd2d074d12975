-- Document 01, "Across entries": refusals 18 and 19, at the lowest entry that applies.
-- Assumes nothing.
use Rattle.std.specs.Prelude.{Bool, true, not, List, ℕ, zero, suc, ◌+◌, ◌-◌, ◌*◌}
use Rattle.std.proofs.Math.Option.{Option, none, some}
use Rattle.number.specs.Limits.{entry_width}
use Rattle.number.specs.Choice.{when◌then◌else◌, ◌<?◌, ◌=?◌}
use Rattle.number.specs.Scan.{scan}
use Rattle.reading.specs.Got.{Got, got, bad}
use Rattle.key.specs.Key.{Key}
use Rattle.key.specs.First.{first_same}
use Rattle.descriptor.specs.Descriptor.{Descriptor, parent_of}
use Rattle.typelib.specs.Entry.{Entry, descriptor_in}

-- of keys by index from 0, that of i stood earlier
unfoldable pub repeated : (ℕ → Key) → ℕ → Bool
repeated K i = first_same K i <? i

-- the lowest of n entries whose key stood earlier, or n
unfoldable pub first_repeated : (ℕ → Key) → ℕ → ℕ
first_repeated K n = scan (repeated K) n 0

-- the index of a parent, counted from 1; 0 is none
unfoldable pub parent_index : Option ℕ → ℕ
parent_index none = 0
parent_index (some i) = i

-- An unresolved entry ends a chain.
unfoldable pub above : Option (Descriptor ℕ) → ℕ
above none = 0
above (some d) = parent_index (parent_of d)

-- above entry i, counted from 0, stands the entry of this index, counted from 1
unfoldable pub above_in : List (Entry ℕ) → ℕ → ℕ
above_in es i = above (descriptor_in es i)

-- where `up` tells what stands above each entry, the chain from the entry of index i, counted from 1, ends within so many steps
unfoldable pub chain_ends : ℕ → (ℕ → ℕ) → ℕ → Bool
chain_ends zero up i = i =? 0
chain_ends (suc left) up i = when i =? 0 then true else chain_ends left up (up (i - 1))

-- the chain from entry i, counted from 0, does not end: among n entries it would return to one it has passed
unfoldable pub circles : (ℕ → ℕ) → ℕ → ℕ → Bool
circles up n i = not (chain_ends n up (i + 1))

-- the lowest of n entries whose chain doesn't end, or n
unfoldable pub first_circling : (ℕ → ℕ) → ℕ → ℕ
first_circling up n = scan (circles up n) n 0

-- The keys and the chains of n entries of a directory at d: entry places are file offsets. What is read is their number.
unfoldable pub read_across : (ℕ → Key) → (ℕ → ℕ) → ℕ → ℕ → ℕ → Got ℕ
read_across K up n d e =
    when first_repeated K n <? n then bad 18 (d + entry_width * first_repeated K n) else
    when first_circling up n <? n then bad 19 (d + entry_width * first_circling up n) else
    got n e
