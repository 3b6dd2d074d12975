-- What entries say: each fact comes from an entry.
-- Assumes nothing.
use mathlib.Core.Path.{◌≡◌, refl, sym, ap, ◌∙◌}
use mathlib.Core.Logic.{◌⊎◌, inl, inr}
use mathlib.Core.List.{[], List, ◌∷◌, ◌++◌}
use mathlib.Core.Option.{Option, none, some}
use Prim.Native.Nat.{ℕ}
use Rattle.number.specs.Choice.{◌=?◌}
use Rattle.number.proofs.Choice.{both, no_eq, from_not_eq}
use Rattle.key.specs.Key.{Key}
use Rattle.reader.specs.Values.{Descriptor, Entry, entry, entry_key, entry_iid, entry_descriptor}
use Rattle.meaning.specs.Facts.Facts.{In, Sub, prepend, said, says_iid, says_descriptor, keys_of, iids_of, descriptors_of, Within}
use Rattle.meaning.proofs.Facts.Sets.{In-left, In-right, In-append, in_map, map-In, Sub-swap}
use Rattle.meaning.proofs.Facts.Values.{some_equal, not_some}

module _ {X : Type 0} (says : Entry Key → Option X) where
  pub said-In : (x : X) (es : List (Entry Key)) → In x (said says es) → (e : Entry Key) × In e es × (says e ≡ some x)
  unfolding said prepend
  said-In x [] i = elim i [ ]
  said-In x (e ∷ es) i = go (said-In x es) (says e) refl i
    where
      go : (In x (said says es) → (f : Entry Key) × In f es × (says f ≡ some x)) → (o : Option X) → says e ≡ o → In x (prepend o (said says es))
          → (f : Entry Key) × In f (e ∷ es) × (says f ≡ some x)
      go ih none c j = let r = ih j in (r.0, inr r.1, r.2)
      go ih (some y) c (inl p) = (e, inl refl, c ∙ ap (λ (z : X). some z) (sym p))
      go ih (some y) c (inr j) = let r = ih j in (r.0, inr r.1, r.2)

  pub In-said : (e : Entry Key) (x : X) (es : List (Entry Key)) → In e es → says e ≡ some x → In x (said says es)
  unfolding said prepend
  In-said e x [] x3 c = elim x3 [ ]
  In-said e x (f ∷ es) (inl p) c = go (says f) (ap says (sym p) ∙ c)
    where
      go : (o : Option X) → o ≡ some x → In x (prepend o (said says es))
      go none q = not_some q
      go (some y) q = inl (sym (some_equal q))
  In-said e x (f ∷ es) (inr i) c = go (says f) (In-said e x es i c)
    where
      go : (o : Option X) → In x (said says es) → In x (prepend o (said says es))
      go none j = j
      go (some y) j = inr j

  pub said-Sub : (es fs : List (Entry Key)) → Sub es fs → Sub (said says es) (said says fs)
  said-Sub es fs f x i = let r = said-In x es i in In-said r.0 x fs (f r.0 r.1) r.2

  -- of two lists
  pub said_either : (A B : List (Entry Key)) (x : X) → In x (said says (A ++ B)) → In x (said says A) ⊎ In x (said says B)
  said_either A B x i =
      let r = said-In x (A ++ B) i in
      elim (In-append r.0 A B r.1) [ inl a ↦ inl (In-said r.0 x A a r.2) | inr b ↦ inr (In-said r.0 x B b r.2) ]

  pub said_more : (A C D : List (Entry Key)) → Sub (said says A) (said says C) → Sub (said says (A ++ D)) (said says (C ++ D))
  said_more A C D f x i = elim (said_either A D x i) [
    | inl a ↦ said-Sub C (C ++ D) (λ e j. In-left e C D j) x (f x a)
    | inr b ↦ said-Sub D (C ++ D) (λ e j. In-right e C D j) x b
  ]

-- ---- keys

-- a key is that of an entry
pub key_entry : (k : Key) (es : List (Entry Key)) → In k (keys_of es) → (e : Entry Key) × In e es × (k ≡ entry_key e)
key_entry k es i = map-In entry_key k es i

pub entry_key_lem : (e : Entry Key) (es : List (Entry Key)) → In e es → In (entry_key e) (keys_of es)
entry_key_lem e es i = in_map entry_key e es i

pub keys_Sub : (es fs : List (Entry Key)) → Sub es fs → Sub (keys_of es) (keys_of fs)
keys_Sub es fs f k i = let r = key_entry k es i in rw r.2 (entry_key_lem r.0 fs (f r.0 r.1))

pub keys_either : (A B : List (Entry Key)) (k : Key) → In k (keys_of (A ++ B)) → In k (keys_of A) ⊎ In k (keys_of B)
keys_either A B k i =
    let r = key_entry k (A ++ B) i in
    elim (In-append r.0 A B r.1) [ inl a ↦ inl (rw r.2 (entry_key_lem r.0 A a)) | inr b ↦ inr (rw r.2 (entry_key_lem r.0 B b)) ]

-- ---- IIDs and descriptors

-- the IID of an entry, if it is not zero
pub iid_says : (e : Entry Key) (k : Key) (i : ℕ) → says_iid e ≡ some (k, i) → (entry_key e ≡ k) × (entry_iid e ≡ i) × (i ≡ 0 → ⊥)
unfolding says_iid entry_key entry_iid
iid_says (entry l j d) k i =
    both (λ (o : Option (Key × ℕ)). o ≡ some (k, i) → (l ≡ k) × (j ≡ i) × (i ≡ 0 → ⊥)) (j =? 0) none (some (l, j))
    (λ t c. not_some c)
    (λ t c. let p : ◌≡◌ {A = Key × ℕ} (l, j) (k, i) = some_equal c in
    let q : j ≡ i = ap (λ r. r.1) p in
    (ap (λ r. r.0) p, q, λ z. from_not_eq j 0 t (q ∙ z)))

pub says_iid_lem : (e : Entry Key) → (entry_iid e ≡ 0 → ⊥) → says_iid e ≡ some (entry_key e, entry_iid e)
unfolding says_iid entry_key entry_iid
says_iid_lem (entry l j d) f = sym (no_eq j 0 _ _ f refl)

pub descriptor_says : (e : Entry Key) (k : Key) (d : Descriptor Key) → says_descriptor e ≡ some (k, d) → (entry_key e ≡ k) × (entry_descriptor e ≡ some d)
unfolding says_descriptor entry_key entry_descriptor
descriptor_says (entry l j none) k d c = not_some c
descriptor_says (entry l j (some c)) k d h = let p : ◌≡◌ {A = Key × Descriptor Key} (l, c) (k, d) = some_equal h in (ap (λ r. r.0) p, ap (λ r. some r.1) p)

pub says_descriptor_lem : (e : Entry Key) (d : Descriptor Key) → entry_descriptor e ≡ some d → says_descriptor e ≡ some (entry_key e, d)
unfolding says_descriptor entry_key entry_descriptor
says_descriptor_lem (entry l j none) d c = not_some c
says_descriptor_lem (entry l j (some c)) d h = let p : c ≡ d = some_equal h in (λ i. some (l, p i))

-- a key with an IID or a descriptor is a key
pub iid_key : (es : List (Entry Key)) (k : Key) (i : ℕ) → In (k, i) (iids_of es) → In k (keys_of es)
iid_key es k i m = let r = said-In says_iid (k, i) es m in rw (iid_says r.0 k i r.2).0 at (entry_key_lem r.0 es r.1)

pub iid_nonzero : (es : List (Entry Key)) (k : Key) (i : ℕ) → In (k, i) (iids_of es) → i ≡ 0 → ⊥
iid_nonzero es k i m = let r = said-In says_iid (k, i) es m in (iid_says r.0 k i r.2).2

pub descriptor_key : (es : List (Entry Key)) (k : Key) (d : Descriptor Key) → In (k, d) (descriptors_of es) → In k (keys_of es)
descriptor_key es k d m = let r = said-In says_descriptor (k, d) es m in rw (descriptor_says r.0 k d r.2).0 at (entry_key_lem r.0 es r.1)

-- ---- no more is said

pub Within-Sub : (es fs : List (Entry Key)) → Sub es fs → Within es fs
Within-Sub es fs f = record { keys = keys_Sub es fs f; iids = said-Sub says_iid es fs f; descriptors = said-Sub says_descriptor es fs f }

pub Within-through : {es fs gs : List (Entry Key)} → Within es fs → Within fs gs → Within es gs
Within-through f g = record { keys = λ x i. g.keys x (f.keys x i); iids = λ x i. g.iids x (f.iids x i); descriptors = λ x i. g.descriptors x (f.descriptors x i) }

-- and the same entries after both, or before both
pub Within-more : (A C D : List (Entry Key)) → Within A C → Within (A ++ D) (C ++ D)
Within-more A C D f = record {
  keys = λ k i. elim (keys_either A D k i) [
    | inl a ↦ keys_Sub C (C ++ D) (λ e j. In-left e C D j) k (f.keys k a)
    | inr b ↦ keys_Sub D (C ++ D) (λ e j. In-right e C D j) k b
  ];
  iids = said_more says_iid A C D f.iids;
  descriptors = said_more says_descriptor A C D f.descriptors;
}

pub Within-swap : (A B : List (Entry Key)) → Within (A ++ B) (B ++ A)
Within-swap A B = Within-Sub (A ++ B) (B ++ A) (Sub-swap A B)

pub Within-after : (A C D : List (Entry Key)) → Within A C → Within (D ++ A) (D ++ C)
Within-after A C D f = Within-through (Within-swap D A) (Within-through (Within-more A C D f) (Within-swap C D))
