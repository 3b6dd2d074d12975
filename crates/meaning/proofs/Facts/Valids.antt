-- Entries of an accepted file: one for each key, and their facts agree.
-- Assumes nothing.
use mathlib.Core.Path.{◌≡◌, sym, ap, ◌∙◌}
use mathlib.Core.Logic.{inl, inr}
use mathlib.Core.List.{List}
use mathlib.Core.Option.{some}
use Prim.Native.Nat.{ℕ, ◌<◌}
use lib.ListN.{length}
use Rattle.key.specs.Key.{Key}
use Rattle.key.proofs.Orders.{three}
use Rattle.reader.specs.Values.{Descriptor, Entry, entry, entry_key, entry_iid, entry_descriptor}
use Rattle.meaning.specs.Facts.Facts.{In, says_iid, says_descriptor, iids_of, descriptors_of}
use Rattle.meaning.specs.Facts.Conditions.{Agree}
use Rattle.meaning.specs.Facts.Valid.{blank, entry_at, Valid}
use Rattle.meaning.proofs.Facts.Sets.{In-at, at_In}
use Rattle.meaning.proofs.Facts.Values.{Single, some_equal}
use Rattle.meaning.proofs.Facts.Said.{said-In, iid_says, descriptor_says}
use Rattle.meaning.proofs.Facts.Agrees.{Owned, Sound, Sound-Agree}

pub entry_at_lem : (e : Entry Key) (A : List (Entry Key)) → In e A → (i : ℕ) × (i < length A) × (entry_at A i ≡ e)
unfolding entry_at
entry_at_lem e A m = In-at blank e A m

pub at_entry : (A : List (Entry Key)) (i : ℕ) → i < length A → In (entry_at A i) A
unfolding entry_at
at_entry A i h = at_In blank A i h

-- an entry is its parts
pub entry_parts : (e f : Entry Key) → entry_key e ≡ entry_key f → entry_iid e ≡ entry_iid f → entry_descriptor e ≡ entry_descriptor f → e ≡ f
unfolding entry_key entry_iid entry_descriptor
entry_parts (entry k i c) (entry l j d) p q r = λ x. entry (p x) (q x) (r x)

pub resolved_parts : (e : Entry Key) (d : Descriptor Key) → entry_descriptor e ≡ some d → e ≡ entry (entry_key e) (entry_iid e) (some d)
unfolding entry_key entry_iid entry_descriptor
resolved_parts (entry k i c) d h = λ x. entry k i (h x)

module _ (A : List (Entry Key)) (v : Valid A) where
  -- one entry for each key
  pub unique : (e f : Entry Key) → In e A → In f A → entry_key e ≡ entry_key f → e ≡ f
  unique e f a b q =
      let x = entry_at_lem e A a in
      let y = entry_at_lem f A b in
      let p : entry_key (entry_at A x.0) ≡ entry_key (entry_at A y.0) = ap entry_key x.2 ∙ q ∙ ap entry_key (sym y.2) in
      elim (three x.0 y.0) [
        | inl l ↦ absurd (v.keys x.0 y.0 l y.1 p)
        | inr t ↦ elim t [ inl s ↦ sym x.2 ∙ ap (entry_at A) s ∙ y.2 | inr l ↦ absurd (v.keys y.0 x.0 l x.1 (sym p)) ]
      ]

  -- and for each nonzero IID
  unique_iid : (e f : Entry Key) → In e A → In f A → entry_iid e ≡ entry_iid f → (entry_iid e ≡ 0 → ⊥) → e ≡ f
  unique_iid e f a b q n =
      let x = entry_at_lem e A a in
      let y = entry_at_lem f A b in
      let p : entry_iid (entry_at A x.0) ≡ entry_iid (entry_at A y.0) = ap entry_iid x.2 ∙ q ∙ ap entry_iid (sym y.2) in
      elim (three x.0 y.0) [
        | inl l ↦ absurd (n (ap entry_iid (sym x.2) ∙ v.iids x.0 y.0 l y.1 p))
        | inr t ↦ elim t [
          | inl s ↦ sym x.2 ∙ ap (entry_at A) s ∙ y.2
          | inr l ↦ absurd (n (ap entry_iid (sym x.2) ∙ p ∙ v.iids y.0 x.0 l x.1 (sym p)))
        ]
      ]

  valid_iids : Single (iids_of A)
  valid_iids k i j a b =
      let r = said-In says_iid (k, i) A a in
      let s = said-In says_iid (k, j) A b in
      let p = iid_says r.0 k i r.2 in
      let q = iid_says s.0 k j s.2 in
      sym p.1 ∙ ap entry_iid (unique r.0 s.0 r.1 s.1 (p.0 ∙ sym q.0)) ∙ q.1

  valid_owners : Owned A
  valid_owners k l i a b =
      let r = said-In says_iid (k, i) A a in
      let s = said-In says_iid (l, i) A b in
      let p = iid_says r.0 k i r.2 in
      let q = iid_says s.0 l i s.2 in
      sym p.0 ∙ ap entry_key (unique_iid r.0 s.0 r.1 s.1 (p.1 ∙ sym q.1) (λ z. p.2 (sym p.1 ∙ z))) ∙ q.0

  valid_descriptors : Single (descriptors_of A)
  valid_descriptors k c d a b =
      let r = said-In says_descriptor (k, c) A a in
      let s = said-In says_descriptor (k, d) A b in
      let p = descriptor_says r.0 k c r.2 in
      let q = descriptor_says s.0 k d s.2 in
      some_equal (sym p.1 ∙ ap entry_descriptor (unique r.0 s.0 r.1 s.1 (p.0 ∙ sym q.0)) ∙ q.1)

  pub valid_Sound : Sound A
  valid_Sound = record { iids = valid_iids; owners = valid_owners; descriptors = valid_descriptors; chains = v.chains }

  pub valid_Agree : Agree A
  valid_Agree = Sound-Agree A valid_Sound
