-- Document 01, "Union: one entry for each key of either file; the nonzero IID if any; the descriptor if any", in the order of the normal form.
-- Assumes nothing.
use Rattle.std.specs.declared.cmp.Ordering.TheVariants.{Equal, Greater, Less}
use Rattle.std.specs.declared.cmp.Ordering.{Ordering}
use Rattle.std.specs.Prelude.{List, [], ◌∷◌, map, ℕ}
use Rattle.std.proofs.Math.Option.{Option, none, some}
use Rattle.number.specs.Choice.{when◌then◌else◌, ◌<?◌}
use Rattle.key.specs.Key.{Key, then_by, compare_keys, same_key}
use Rattle.reader.specs.Values.{Descriptor, Entry, entry}
use Rattle.meaning.specs.Facts.Facts.{keys_of, iids_of, descriptors_of}

-- ---- what is said of a key

-- the values that facts give k
unfoldable pub values_of : {X : Type 0} → List (Key × X) → Key → List X
values_of [] k = []
values_of (f ∷ fs) k = when same_key f.0 k then f.1 ∷ values_of fs k else values_of fs k

unfoldable pub first_of : {X : Type 0} → List X → Option X
first_of [] = none
first_of (x ∷ xs) = some x

unfoldable pub or_zero : Option ℕ → ℕ
or_zero none = 0
or_zero (some i) = i

-- the nonzero IID of k if any, else 0
unfoldable pub iid_in : List (Entry Key) → Key → ℕ
iid_in es k = or_zero (first_of (values_of (iids_of es) k))

-- the descriptor of k if any
unfoldable pub descriptor_for : List (Entry Key) → Key → Option (Descriptor Key)
descriptor_for es k = first_of (values_of (descriptors_of es) k)

-- ---- the order of the normal form

unfoldable pub compare_numbers : ℕ → ℕ → Ordering
compare_numbers a b =
    when a <? b then Less else
    when b <? a then Greater else
    Equal

-- Of keys whose IIDs `iid` tells: IID, then the key. Nonzero IIDs are unique in a union that is not refused, so the keys decide among zero IIDs.
unfoldable pub compare_by : (Key → ℕ) → Key → Key → Ordering
compare_by iid k l = then_by (compare_numbers (iid k) (iid l)) (compare_keys k l)

-- ---- sorting, each once

-- x beside the first element y of a list, as x stands to y: before it, there already, or in the rest, which `more` is with x put in
unfoldable pub beside : {X : Type 0} → Ordering → X → X → List X → List X → List X
beside Less x y ys more = x ∷ y ∷ ys
beside Equal x y ys more = y ∷ ys
beside Greater x y ys more = y ∷ more

unfoldable pub insert : {X : Type 0} → (X → X → Ordering) → X → List X → List X
insert compare x [] = x ∷ []
insert compare x (y ∷ ys) = beside (compare x y) x y ys (insert compare x ys)

unfoldable pub sort : {X : Type 0} → (X → X → Ordering) → List X → List X
sort compare [] = []
sort compare (x ∷ xs) = insert compare x (sort compare xs)

-- ---- the union

unfoldable pub entry_for : List (Entry Key) → Key → Entry Key
entry_for es k = entry k (iid_in es k) (descriptor_for es k)

-- of a file's own entries: these, in the order of its normal form
unfoldable pub union : List (Entry Key) → List (Entry Key)
union es = map (entry_for es) (sort (compare_by (iid_in es)) (keys_of es))
