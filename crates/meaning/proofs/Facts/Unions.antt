-- The union of entries: it says what they say, and depends on that alone.
-- Assumes nothing.
use mathlib.Core.Path.{◌≡◌, refl, sym, ap, ◌∙◌, fun_ext}
use mathlib.Core.List.{List, [], ◌∷◌, map}
use mathlib.Core.Option.{Option, none, some}
use Prim.Native.Nat.{ℕ, ◌<◌}
use lib.ListN.{length, get_or}
use Rattle.key.specs.Key.{Key, key}
use Rattle.reader.specs.Values.{Descriptor, Entry, entry, entry_key, entry_iid, entry_descriptor}
use Rattle.meaning.specs.Facts.Facts.{In, Sub, says_iid, says_descriptor, keys_of, iids_of, descriptors_of, Within}
use Rattle.meaning.specs.Facts.Union.{values_of, first_of, or_zero, iid_in, descriptor_for, compare_by, sort, entry_for, union}
use Rattle.meaning.specs.Facts.Valid.{entry_at}
use Rattle.meaning.proofs.Facts.Sets.{in_map, map-In, length-map, get_or-map, Distinct}
use Rattle.meaning.proofs.Facts.Sorts.{In-sort, sort-In, sort_ext, Rising-sort, Rising-Distinct}
use Rattle.meaning.proofs.Facts.Orders.{ordered}
use Rattle.meaning.proofs.Facts.Values.{Single, first_value, no_value, value_first, value_ext}
use Rattle.meaning.proofs.Facts.Said.{said-In, In-said, iid_says, says_iid_lem, descriptor_says, says_descriptor_lem, iid_key, descriptor_key, iid_nonzero}

-- ---- the IID and the descriptor of a key

module _ (es : List (Entry Key)) where
  -- a nonzero IID is one that was said
  pub iid_fact : (k : Key) → (iid_in es k ≡ 0 → ⊥) → In (k, iid_in es k) (iids_of es)
  unfolding iid_in or_zero
  iid_fact k f = go (first_of (values_of (iids_of es) k)) refl f
    where
      go : (o : Option ℕ) → first_of (values_of (iids_of es) k) ≡ o → (or_zero o ≡ 0 → ⊥) → In (k, or_zero o) (iids_of es)
      go none e f = absurd (f refl)
      go (some i) e f = first_value (iids_of es) k i e

  pub iid_is : Single (iids_of es) → (k : Key) (i : ℕ) → In (k, i) (iids_of es) → iid_in es k ≡ i
  unfolding iid_in or_zero
  iid_is h k i m = ap or_zero (value_first (iids_of es) h k i m)

  -- one that was said of a key is not zero, though there may be others
  pub iid_some : (k : Key) (i : ℕ) → In (k, i) (iids_of es) → iid_in es k ≡ 0 → ⊥
  unfolding iid_in or_zero
  iid_some k i m z = go (first_of (values_of (iids_of es) k)) refl z
    where
      go : (o : Option ℕ) → first_of (values_of (iids_of es) k) ≡ o → or_zero o ≡ 0 → ⊥
      go none e z = no_value (iids_of es) k i e m
      go (some j) e z = iid_nonzero es k j (first_value (iids_of es) k j e) z

  pub descriptor_fact : (k : Key) (d : Descriptor Key) → descriptor_for es k ≡ some d → In (k, d) (descriptors_of es)
  unfolding descriptor_for
  descriptor_fact k d e = first_value (descriptors_of es) k d e

  pub descriptor_is : Single (descriptors_of es) → (k : Key) (d : Descriptor Key) → In (k, d) (descriptors_of es) → descriptor_for es k ≡ some d
  unfolding descriptor_for
  descriptor_is h k d m = value_first (descriptors_of es) h k d m

module _ (es fs : List (Entry Key)) (w : Within es fs) where
  pub iid_more : Single (iids_of fs) → (k : Key) → (iid_in es k ≡ 0 → ⊥) → iid_in fs k ≡ iid_in es k
  iid_more h k f = iid_is fs h k (iid_in es k) (w.iids (k, iid_in es k) (iid_fact es k f))

  pub descriptor_more : Single (descriptors_of fs) → (k : Key) (d : Descriptor Key) → descriptor_for es k ≡ some d → descriptor_for fs k ≡ some d
  descriptor_more h k d e = descriptor_is fs h k d (w.descriptors (k, d) (descriptor_fact es k d e))

  module _ (v : Within fs es) where
    pub iid_ext : Single (iids_of fs) → (k : Key) → iid_in es k ≡ iid_in fs k
    unfolding iid_in
    iid_ext h k = ap or_zero (value_ext (iids_of es) (iids_of fs) w.iids v.iids h k)

    pub descriptor_ext : Single (descriptors_of fs) → (k : Key) → descriptor_for es k ≡ descriptor_for fs k
    unfolding descriptor_for
    descriptor_ext h k = value_ext (descriptors_of es) (descriptors_of fs) w.descriptors v.descriptors h k

    -- equal facts make equal unions
    pub union_ext : Single (iids_of fs) → Single (descriptors_of fs) → union es ≡ union fs
    unfolding union entry_for
    union_ext hi hd =
        let i : iid_in es ≡ iid_in fs = fun_ext (iid_ext hi) in
        let d : descriptor_for es ≡ descriptor_for fs = fun_ext (descriptor_ext hd) in
        (λ j. map (λ (k : Key). entry k (i j k) (d j k)) (sort (compare_by (i j)) (keys_of es)))
        ∙ ap (map (λ (k : Key). entry k (iid_in fs k) (descriptor_for fs k))) (sort_ext (ordered (iid_in fs)) (keys_of es) (keys_of fs) w.keys v.keys)

-- ---- the entries of a union

-- the keys in order
abbrev pub sorted_keys : List (Entry Key) → List Key
sorted_keys es = sort (compare_by (iid_in es)) (keys_of es)

module _ (es : List (Entry Key)) where
  pub for_key : (k : Key) → entry_key (entry_for es k) ≡ k
  unfolding entry_key entry_for
  for_key k = refl

  pub for_iid : (k : Key) → entry_iid (entry_for es k) ≡ iid_in es k
  unfolding entry_iid entry_for
  for_iid k = refl

  pub for_descriptor : (k : Key) → entry_descriptor (entry_for es k) ≡ descriptor_for es k
  unfolding entry_descriptor entry_for
  for_descriptor k = refl

  -- one for each key
  pub made : (k : Key) → In k (keys_of es) → In (entry_for es k) (union es)
  unfolding union
  made k i = in_map (entry_for es) k (sorted_keys es) (In-sort (ordered (iid_in es)) k (keys_of es) i)

  pub made_for : (e : Entry Key) → In e (union es) → (k : Key) × In k (keys_of es) × (e ≡ entry_for es k)
  unfolding union
  made_for e i = let r = map-In (entry_for es) e (sorted_keys es) i in (r.0, sort-In (ordered (iid_in es)) r.0 (keys_of es) r.1, r.2)

  -- what stands in an entry of the union
  pub union-entry : (k : Key) (i : ℕ) (d : Option (Descriptor Key)) → In (entry k i d) (union es) → In k (keys_of es) × (iid_in es k ≡ i) × (descriptor_for es k ≡ d)
  unfolding entry_key entry_iid entry_descriptor
  union-entry k i d m =
      let r = made_for (entry k i d) m in
      let e : r.0 ≡ k = sym (for_key r.0) ∙ ap entry_key (sym r.2) in
      (rw e at r.1, rw e at (sym (for_iid r.0) ∙ ap entry_iid (sym r.2)), rw e at (sym (for_descriptor r.0) ∙ ap entry_descriptor (sym r.2)))

  same_keys : (ks : List Key) → keys_of (map (entry_for es) ks) ≡ ks
  same_keys [] = refl
  same_keys (k ∷ ks) = let p = for_key k in let q = same_keys ks in (λ i. p i ∷ q i)

  pub union_keys : keys_of (union es) ≡ sorted_keys es
  unfolding union
  union_keys = same_keys (sorted_keys es)

  pub sorted_Distinct : Distinct (sorted_keys es)
  sorted_Distinct = Rising-Distinct (ordered (iid_in es)) (sorted_keys es) (Rising-sort (ordered (iid_in es)) (keys_of es))

  pub union-length : length (union es) ≡ length (sorted_keys es)
  unfolding union
  union-length = length-map (entry_for es) (sorted_keys es)

  -- by position
  pub union_at : (i : ℕ) → i < length (sorted_keys es) → entry_at (union es) i ≡ entry_for es (get_or (sorted_keys es) i (key [] []))
  unfolding union entry_at
  union_at i h = get_or-map (entry_for es) _ (key [] []) (sorted_keys es) i h

  -- ---- a union says what the entries say

  key_union : Sub (keys_of (union es)) (keys_of es)
  key_union k i = sort-In (ordered (iid_in es)) k (keys_of es) (rw union_keys at i)

  union_key : Sub (keys_of es) (keys_of (union es))
  union_key k i = rw union_keys (In-sort (ordered (iid_in es)) k (keys_of es) i)

  iid_union : Sub (iids_of (union es)) (iids_of es)
  iid_union (k, i) m =
      let r = said-In says_iid (k, i) (union es) m in
      let s = made_for r.0 r.1 in
      let t = iid_says r.0 k i r.2 in
      let a : s.0 ≡ k = sym (for_key s.0) ∙ ap entry_key (sym s.2) ∙ t.0 in
      let b : iid_in es s.0 ≡ i = sym (for_iid s.0) ∙ ap entry_iid (sym s.2) ∙ t.1 in
      rw (b, a) at (iid_fact es s.0 (λ z. t.2 (sym b ∙ z)))

  union_iid : Single (iids_of es) → Sub (iids_of es) (iids_of (union es))
  union_iid h (k, i) m =
      let e : iid_in es k ≡ i = iid_is es h k i m in
      let z : entry_iid (entry_for es k) ≡ 0 → ⊥ = λ q. iid_nonzero es k i m (sym e ∙ sym (for_iid k) ∙ q) in
      In-said says_iid (entry_for es k) (k, i) (union es) (made k (iid_key es k i m)) (says_iid_lem (entry_for es k) z ∙ (λ j. some (for_key k j, (for_iid k ∙ e) j)))

  descriptor_union : Sub (descriptors_of (union es)) (descriptors_of es)
  descriptor_union (k, d) m =
      let r = said-In says_descriptor (k, d) (union es) m in
      let s = made_for r.0 r.1 in
      let t = descriptor_says r.0 k d r.2 in
      let a : s.0 ≡ k = sym (for_key s.0) ∙ ap entry_key (sym s.2) ∙ t.0 in
      let b : descriptor_for es s.0 ≡ some d = sym (for_descriptor s.0) ∙ ap entry_descriptor (sym s.2) ∙ t.1 in
      rw a at (descriptor_fact es s.0 d b)

  union_descriptor : Single (descriptors_of es) → Sub (descriptors_of es) (descriptors_of (union es))
  union_descriptor h (k, d) m =
      In-said says_descriptor (entry_for es k) (k, d) (union es) (made k (descriptor_key es k d m))
      (says_descriptor_lem (entry_for es k) d (for_descriptor k ∙ descriptor_is es h k d m) ∙ (λ j. some (for_key k j, d)))

  -- no more
  pub union-Within : Within (union es) es
  union-Within = record { keys = key_union; iids = iid_union; descriptors = descriptor_union }

  -- and no less, where no key has two values
  pub Within-union : Single (iids_of es) → Single (descriptors_of es) → Within es (union es)
  Within-union hi hd = record { keys = union_key; iids = union_iid hi; descriptors = union_descriptor hd }
