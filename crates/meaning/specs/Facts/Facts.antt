-- Entries as facts: a list of entries, repetitions allowed, read as the set of what it says.
-- Which keys there are; which key has which nonzero IID; which key has which descriptor. What two files say together is what their concatenation says.
-- Assumes nothing.
use Rattle.std.specs.Prelude.{◌≡◌, ◌⊎◌, List, [], ◌∷◌, map, ℕ}
use Rattle.std.proofs.Math.Option.{Option, none, some}
use Rattle.number.specs.Choice.{when◌then◌else◌, ◌=?◌}
use Rattle.key.specs.Key.{Key}
use Rattle.reader.specs.Values.{Descriptor, Entry, entry, entry_key}

-- x is one of the list
abbrev pub In : {X : Type 0} → X → List X → Type 0
In x [] = ⊥
In x (y ∷ ys) = (x ≡ y) ⊎ In x ys

-- each of l is one of m
abbrev pub Sub : {X : Type 0} → List X → List X → Type 0
Sub {X} l m = (x : X) → In x l → In x m

unfoldable pub prepend : {X : Type 0} → Option X → List X → List X
prepend none xs = xs
prepend (some x) xs = x ∷ xs

-- what each entry says, where `says` tells what one does
unfoldable pub said : {X : Type 0} → (Entry Key → Option X) → List (Entry Key) → List X
said says [] = []
said says (e ∷ es) = prepend (says e) (said says es)

unfoldable pub says_iid : Entry Key → Option (Key × ℕ)
says_iid (entry k i d) = when i =? 0 then none else some (k, i)

unfoldable pub says_descriptor : Entry Key → Option (Key × Descriptor Key)
says_descriptor (entry k i none) = none
says_descriptor (entry k i (some d)) = some (k, d)

-- the keys
abbrev pub keys_of : List (Entry Key) → List Key
keys_of es = map entry_key es

-- keys with their nonzero IIDs
abbrev pub iids_of : List (Entry Key) → List (Key × ℕ)
iids_of es = said says_iid es

-- keys with their descriptors
abbrev pub descriptors_of : List (Entry Key) → List (Key × Descriptor Key)
descriptors_of es = said says_descriptor es

-- es says no more than fs
pub record Within (es fs : List (Entry Key)) : Type 0 where
  pub keys : Sub (keys_of es) (keys_of fs)
  pub iids : Sub (iids_of es) (iids_of fs)
  pub descriptors : Sub (descriptors_of es) (descriptors_of fs)

-- Document 01, "Meaning": the set of entries.
abbrev pub MeanSame : List (Entry Key) → List (Entry Key) → Type 0
MeanSame A B = Sub A B × Sub B A
