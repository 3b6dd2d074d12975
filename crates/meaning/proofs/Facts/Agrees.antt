-- Facts that agree: what each of the conditions 21 to 24 rules out, for fewer facts too, and for the facts of two files.
-- Assumes nothing.
use mathlib.Core.Path.{◌≡◌, sym, ap, ◌∙◌}
use mathlib.Core.Logic.{◌⊎◌, inl, inr}
use mathlib.Core.List.{List, ◌++◌}
use mathlib.Core.Option.{Option, some}
use mathlib.Core.HLevel.{Discrete}
use Prim.Native.Nat.{ℕ}
use native.Mathlib.Decide.{ℕ_discrete}
use Rattle.key.specs.Key.{Key}
use Rattle.reader.specs.Values.{Descriptor, parent_of, Entry}
use Rattle.meaning.specs.Facts.Equal.{key?, descriptor?}
use Rattle.meaning.specs.Facts.Facts.{In, said, says_iid, says_descriptor, keys_of, iids_of, descriptors_of, Within}
use Rattle.meaning.specs.Facts.Union.{iid_in}
use Rattle.meaning.specs.Facts.Conditions.{TwoIids, SharedIid, TwoDescriptors, Endless, parent_from, parent_in, Ends, Free, Agree}
use Rattle.meaning.proofs.Facts.Values.{Single, Single-Sub}
use Rattle.meaning.proofs.Facts.Said.{said_either, keys_either, iid_key, descriptor_key}
use Rattle.meaning.proofs.Facts.Unions.{iid_fact, iid_is, iid_some, descriptor_is}
use Rattle.meaning.proofs.Facts.Chains.{Ends-Exact, Ends-beside, Ends-fewer}
use Rattle.meaning.proofs.Facts.Tests.{parent_descriptor, Ends-or_not}

-- no IID has two keys
abbrev pub Owned : List (Entry Key) → Type 0
Owned es = (k l : Key) (i : ℕ) → In (k, i) (iids_of es) → In (l, i) (iids_of es) → k ≡ l

abbrev pub AllEnd : List (Entry Key) → Type 0
AllEnd es = (k : Key) → In k (keys_of es) → Ends (parent_in es) k

-- what the conditions rule out
pub record Sound (es : List (Entry Key)) : Type 0 where
  pub iids : Single (iids_of es)
  pub owners : Owned es
  pub descriptors : Single (descriptors_of es)
  pub chains : AllEnd es

-- ---- two values of one key, be they IIDs or descriptors

module _ {X : Type 0} (x? : Discrete X) (says : Entry Key → Option (Key × X)) (keyed : (es : List (Entry Key)) (k : Key) (x : X) → In (k, x) (said says es) → In k (keys_of es)) where
  abbrev Two : List (Entry Key) → Key → Type 0
  Two es k = (x : X) × (y : X) × In (k, x) (said says es) × In (k, y) (said says es) × (x ≡ y → ⊥)

  agree_on : (es : List (Entry Key)) (k : Key) (x y : X) → (Two es k → ⊥) → In (k, x) (said says es) → In (k, y) (said says es) → x ≡ y
  agree_on es k x y f a b = elim (x? x y) [ yes e ↦ e | no n ↦ absurd (f (x, y, a, b, n)) ]

  Single-Free : (es : List (Entry Key)) → Free es (Two es) → Single (said says es)
  Single-Free es f k x y a b = agree_on es k x y (f k (keyed es k x a)) a b

  -- where those of B agree and each key of A has one value in both, no key has two
  Single-meet : (A B : List (Entry Key)) → Single (said says B) → Free A (Two (A ++ B)) → Single (said says (A ++ B))
  Single-meet A B h f k x y a b = go (said_either says A B (k, x) a) (said_either says A B (k, y) b)
    where
      go : In (k, x) (said says A) ⊎ In (k, x) (said says B) → In (k, y) (said says A) ⊎ In (k, y) (said says B) → x ≡ y
      go (inl c) d = agree_on (A ++ B) k x y (f k (keyed A k x c)) a b
      go (inr c) (inl d) = agree_on (A ++ B) k x y (f k (keyed A k y d)) a b
      go (inr c) (inr d) = h k x y c d

not_two : {X : Type 0} (l : List (Key × X)) → Single l → (k : Key) → (x : X) × (y : X) × In (k, x) l × In (k, y) l × (x ≡ y → ⊥) → ⊥
not_two l h k q = q.4 (h k q.0 q.1 q.2 q.3)

-- ---- the same as that no condition holds

module _ (es : List (Entry Key)) where
  pub Single-iids : Free es (TwoIids es) → Single (iids_of es)
  Single-iids f = Single-Free ℕ_discrete says_iid iid_key es f

  pub iids_Single : Single (iids_of es) → (k : Key) → TwoIids es k → ⊥
  iids_Single h k = not_two (iids_of es) h k

  pub Single-descriptors : Free es (TwoDescriptors es) → Single (descriptors_of es)
  Single-descriptors f = Single-Free descriptor? says_descriptor descriptor_key es f

  pub descriptors_Single : Single (descriptors_of es) → (k : Key) → TwoDescriptors es k → ⊥
  descriptors_Single h k = not_two (descriptors_of es) h k

  -- two keys with one IID
  pub shared : Single (iids_of es) → (k l : Key) (i : ℕ) → In (k, i) (iids_of es) → In (l, i) (iids_of es) → (l ≡ k → ⊥) → SharedIid es k
  shared h k l i a b n = (iid_some es k i a, (l, n, iid_is es h l i b ∙ sym (iid_is es h k i a)))

  pub owned : Single (iids_of es) → Free es (SharedIid es) → Owned es
  owned h f k l i a b = elim (key? l k) [ yes e ↦ sym e | no n ↦ absurd (f k (iid_key es k i a) (shared h k l i a b n)) ]

  pub shared_Owned : Owned es → (k : Key) → SharedIid es k → ⊥
  shared_Owned h k q =
      let l : Key = q.1.0 in
      let m : In (k, iid_in es k) (iids_of es) = iid_fact es k q.0 in
      let n : In (l, iid_in es l) (iids_of es) = iid_fact es l (λ z. q.0 (sym q.1.2 ∙ z)) in
      q.1.1 (h l k (iid_in es k) (rw q.1.2 at n) m)

  pub all_end : Free es (Endless es) → AllEnd es
  all_end f k i = elim (Ends-or_not es k) [ inl e ↦ e | inr n ↦ absurd (f k i n) ]

  pub Agree-Sound : Agree es → Sound es
  Agree-Sound a =
      let h : Single (iids_of es) = Single-iids a.iids in
      record { iids = h; owners = owned h a.owners; descriptors = Single-descriptors a.descriptors; chains = all_end a.chains }

  pub Sound-Agree : Sound es → Agree es
  Sound-Agree s = record {
    iids = λ k i. iids_Single s.iids k;
    owners = λ k i. shared_Owned s.owners k;
    descriptors = λ k i. descriptors_Single s.descriptors k;
    chains = λ k i f. f (s.chains k i);
  }

-- ---- parents

module _ (es : List (Entry Key)) where
  pub descriptor_parent : Single (descriptors_of es) → (k p : Key) (d : Descriptor Key) → In (k, d) (descriptors_of es) → parent_of d ≡ some p → parent_in es k ≡ some p
  unfolding parent_in parent_from
  descriptor_parent h k p d m e = ap parent_from (descriptor_is es h k d m) ∙ e

-- ---- fewer facts

module _ (es fs : List (Entry Key)) (w : Within es fs) where
  parent_more : Single (descriptors_of fs) → (k p : Key) → parent_in es k ≡ some p → parent_in fs k ≡ some p
  parent_more h k p e = let r = parent_descriptor es k p e in descriptor_parent fs h k p r.0 (w.descriptors (k, r.0) r.1) r.2

  pub ends_within : Single (descriptors_of fs) → AllEnd fs → AllEnd es
  ends_within h f k i = Ends-fewer (parent_in es) (parent_in fs) (parent_more h) k (f k (w.keys k i))

  pub Sound-within : Sound fs → Sound es
  Sound-within s = record {
    iids = Single-Sub (iids_of es) (iids_of fs) w.iids s.iids;
    owners = λ k l i a b. s.owners k l i (w.iids (k, i) a) (w.iids (l, i) b);
    descriptors = Single-Sub (descriptors_of es) (descriptors_of fs) w.descriptors s.descriptors;
    chains = ends_within s.descriptors s.chains;
  }

  pub Agree-within : Agree fs → Agree es
  Agree-within a = Sound-Agree es (Sound-within (Agree-Sound fs a))

-- ---- two files: where the second agrees with itself, a condition that holds does so of a key of the first

module _ (A B : List (Entry Key)) where
  owners_meet : Owned B → Single (iids_of (A ++ B)) → Free A (SharedIid (A ++ B)) → Owned (A ++ B)
  owners_meet hB h f k l i a b = go (said_either says_iid A B (k, i) a) (said_either says_iid A B (l, i) b)
    where
      go : In (k, i) (iids_of A) ⊎ In (k, i) (iids_of B) → In (l, i) (iids_of A) ⊎ In (l, i) (iids_of B) → k ≡ l
      go (inl x) y = elim (key? l k) [ yes e ↦ sym e | no n ↦ absurd (f k (iid_key A k i x) (shared (A ++ B) h k l i a b n)) ]
      go (inr x) (inl y) = elim (key? k l) [ yes e ↦ e | no n ↦ absurd (f l (iid_key A l i y) (shared (A ++ B) h l k i b a n)) ]
      go (inr x) (inr y) = hB k l i x y

  -- a parent in both is that of a key of A, or one in B
  whose : Single (descriptors_of B) → ((k : Key) → In k (keys_of A) → Ends (parent_in (A ++ B)) k) → (k p : Key) → parent_in (A ++ B) k ≡ some p → Ends (parent_in (A ++ B)) k ⊎ (parent_in B k ≡ some p)
  whose hB f k p e =
      let r = parent_descriptor (A ++ B) k p e in
      elim (said_either says_descriptor A B (k, r.0) r.1) [ inl a ↦ inl (f k (descriptor_key A k r.0 a)) | inr b ↦ inr (descriptor_parent B hB k p r.0 b r.2) ]

  chains_meet : Single (descriptors_of B) → AllEnd B → Free A (Endless (A ++ B)) → AllEnd (A ++ B)
  chains_meet hB eB f k i =
      let hA : (k : Key) → In k (keys_of A) → Ends (parent_in (A ++ B)) k = λ k m. elim (Ends-or_not (A ++ B) k) [ inl e ↦ e | inr n ↦ absurd (f k m n) ] in
      elim (keys_either A B k i) [
        | inl a ↦ hA k a
        | inr b ↦ let x = Ends-Exact (parent_in B) k (eB k b) in Ends-beside (parent_in (A ++ B)) (parent_in B) (whose hB hA) x.0 k x.1
      ]

  module _ (s : Sound B) where
    pub Free-iids : Free A (TwoIids (A ++ B)) → Free (A ++ B) (TwoIids (A ++ B))
    Free-iids f k i = iids_Single (A ++ B) (Single-meet ℕ_discrete says_iid iid_key A B s.iids f) k

    pub Free-owners : Free (A ++ B) (TwoIids (A ++ B)) → Free A (SharedIid (A ++ B)) → Free (A ++ B) (SharedIid (A ++ B))
    Free-owners g f k i = shared_Owned (A ++ B) (owners_meet s.owners (Single-iids (A ++ B) g) f) k

    pub Free-descriptors : Free A (TwoDescriptors (A ++ B)) → Free (A ++ B) (TwoDescriptors (A ++ B))
    Free-descriptors f k i = descriptors_Single (A ++ B) (Single-meet descriptor? says_descriptor descriptor_key A B s.descriptors f) k

    pub Free-chains : Free A (Endless (A ++ B)) → Free (A ++ B) (Endless (A ++ B))
    Free-chains f k i n = n (chains_meet s.descriptors s.chains f k i)
