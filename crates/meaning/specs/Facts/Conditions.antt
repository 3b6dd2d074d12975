-- Document 01, refusals 21 to 26: the condition of each, on what the two files say together, and its test.
-- Assumes nothing.
use Rattle.std.specs.Prelude.{◌≡◌, Bool, true, false, not, List, [], ◌∷◌, ℕ, zero, suc, ◌<◌, length}
use Rattle.std.proofs.Math.Option.{Option, none, some}
use Rattle.number.specs.Limits.{file_limit, entry_limit}
use Rattle.number.specs.Choice.{when◌then◌else◌, ◌=?◌}
use Rattle.key.specs.Key.{Key, same_key}
use Rattle.reader.specs.Values.{Descriptor, parent_of, Entry}
use Rattle.meaning.specs.Facts.Equal.{same_descriptor}
use Rattle.meaning.specs.Facts.Facts.{In, keys_of, iids_of, descriptors_of}
use Rattle.meaning.specs.Facts.Union.{values_of, iid_in, descriptor_for, union}

-- one of the list passes
unfoldable pub any_of : {X : Type 0} → (X → Bool) → List X → Bool
any_of p [] = false
any_of p (x ∷ xs) = when p x then true else any_of p xs

-- ---- 21, 22, 23

-- 21: k has two nonzero IIDs
abbrev pub TwoIids : List (Entry Key) → Key → Type 0
TwoIids es k = (i : ℕ) × (j : ℕ) × In (k, i) (iids_of es) × In (k, j) (iids_of es) × (i ≡ j → ⊥)

-- 22: the IID that k has is nonzero, and another key has it too. Which IID a key with two has depends on the order of the files; 21 comes before.
abbrev pub SharedIid : List (Entry Key) → Key → Type 0
SharedIid es k = (iid_in es k ≡ 0 → ⊥) × ((l : Key) × (l ≡ k → ⊥) × (iid_in es l ≡ iid_in es k))

-- 23: k has two different descriptors
abbrev pub TwoDescriptors : List (Entry Key) → Key → Type 0
TwoDescriptors es k = (c : Descriptor Key) × (d : Descriptor Key) × In (k, c) (descriptors_of es) × In (k, d) (descriptors_of es) × (c ≡ d → ⊥)

-- one of the list is another than its first
unfoldable pub differ : {X : Type 0} → (X → X → Bool) → List X → Bool
differ same [] = false
differ same (x ∷ xs) = any_of (λ y. not (same x y)) xs

unfoldable pub two_iids : List (Entry Key) → Key → Bool
two_iids es k = differ ◌=?◌ (values_of (iids_of es) k)

-- l is another key than k, with its IID
unfoldable pub shares_with : List (Entry Key) → Key → Key → Bool
shares_with es k l = when same_key l k then false else iid_in es l =? iid_in es k

unfoldable pub shared_iid : List (Entry Key) → Key → Bool
shared_iid es k = when iid_in es k =? 0 then false else any_of (shares_with es k) (keys_of es)

unfoldable pub two_descriptors : List (Entry Key) → Key → Bool
two_descriptors es k = differ same_descriptor (values_of (descriptors_of es) k)

-- ---- 24

-- An unresolved entry ends a chain.
unfoldable pub parent_from : Option (Descriptor Key) → Option Key
parent_from none = none
parent_from (some d) = parent_of d

unfoldable pub parent_in : List (Entry Key) → Key → Option Key
parent_in es k = parent_from (descriptor_for es k)

-- n steps up, where `up` tells what stands above each key
unfoldable pub climb : ℕ → (Key → Option Key) → Option Key → Option Key
climb zero up o = o
climb (suc n) up none = none
climb (suc n) up (some k) = climb n up (up k)

-- the chain from k ends
abbrev pub Ends : (Key → Option Key) → Key → Type 0
Ends up k = (n : ℕ) × (climb n up (some k) ≡ none)

-- 24: the chain of parents from k doesn't end. Which descriptor a key with two has depends on the order of the files; 23 comes before.
abbrev pub Endless : List (Entry Key) → Key → Type 0
Endless es k = Ends (parent_in es) k → ⊥

unfoldable pub is_some : {X : Type 0} → Option X → Bool
is_some none = false
is_some (some x) = true

-- A chain that ends passes each entry at most once.
unfoldable pub endless : List (Entry Key) → Key → Bool
endless es k = is_some (climb (suc (length es)) (parent_in es) (some k))

-- ---- 25, 26

-- 25: union over 1,024 entries
abbrev pub TooMany : List (Entry Key) → Type 0
TooMany es = entry_limit < length (union es)

-- 26: normal form over 1,048,576, where `size` is the length of the normal form of a union
abbrev pub TooLong : (List (Entry Key) → ℕ) → List (Entry Key) → Type 0
TooLong size es = file_limit < size (union es)

-- ---- all of them

-- no key of es is such
abbrev pub Free : List (Entry Key) → (Key → Type 0) → Type 0
Free es Such = (k : Key) → In k (keys_of es) → Such k → ⊥

-- none of 21 to 24 holds of a key
pub record Agree (es : List (Entry Key)) : Type 0 where
  pub iids : Free es (TwoIids es)
  pub owners : Free es (SharedIid es)
  pub descriptors : Free es (TwoDescriptors es)
  pub chains : Free es (Endless es)

-- none of the six conditions holds
pub record Fine (size : List (Entry Key) → ℕ) (es : List (Entry Key)) : Type 0 where
  pub agree : Agree es
  pub few : TooMany es → ⊥
  pub short : TooLong size es → ⊥
