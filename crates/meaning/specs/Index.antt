-- The index of a key among the keys of entries, counted from 1, and entries whose references are such indexes.
-- Assumes nothing.
use Rattle.std.specs.Prelude.{List, [], ◌∷◌, map, ℕ, suc, ◌≤◌, length}
use Rattle.std.proofs.Math.Option.{Option, none, some}
use Rattle.number.specs.Choice.{when◌then◌else◌}
use Rattle.key.specs.Key.{Key, same_key}
use Rattle.reader.specs.Values.{Entry, entry_key}
use Rattle.reader.specs.Rules.{All}
use Rattle.meaning.specs.Meaning.{map_entry}
use Rattle.meaning.specs.Refs.{EntryRefs}

unfoldable pub keys_of : {R : Type 0} → List (Entry R) → List Key
keys_of es = map entry_key es

-- the first index of the key k; one more than there are keys where it is none of them
unfoldable pub index_of : List Key → Key → ℕ
index_of [] k = 1
index_of (l ∷ ks) k = when same_key l k then 1 else suc (index_of ks k)

-- a directory of this meaning, in this order
unfoldable pub renumbered : List (Entry Key) → List (Entry ℕ)
renumbered us = map (map_entry (index_of (keys_of us))) us

-- the number of a parent, where f gives the index of a reference: 0 is none
unfoldable pub parent_number : {R : Type 0} → (R → ℕ) → Option R → ℕ
parent_number f none = 0
parent_number f (some r) = f r

-- every reference is the key of an entry
abbrev pub Closed : List (Entry Key) → Type 0
Closed us = All (EntryRefs (λ k. index_of (keys_of us) k ≤ length us)) us
