-- The union of an accepted file's entries has just these; files mean the same exactly when their unions are equal.
-- Assumes nothing.
use mathlib.Core.Path.{◌≡◌, refl, sym, ap, ◌∙◌}
use mathlib.Core.List.{List}
use mathlib.Core.Option.{Option, none, some}
use native.Mathlib.Decide.{ℕ_discrete}
use Rattle.key.specs.Key.{Key}
use Rattle.reader.specs.Values.{Descriptor, Entry, entry_key, entry_iid, entry_descriptor}
use Rattle.meaning.specs.Facts.Facts.{In, Sub, says_iid, says_descriptor, MeanSame}
use Rattle.meaning.specs.Facts.Union.{iid_in, descriptor_for, entry_for, union}
use Rattle.meaning.specs.Facts.Valid.{Valid}
use Rattle.meaning.proofs.Facts.Said.{said-In, In-said, key_entry, entry_key_lem, iid_says, says_iid_lem, descriptor_says, says_descriptor_lem, Within-Sub}
use Rattle.meaning.proofs.Facts.Unions.{iid_is, iid_fact, descriptor_is, descriptor_fact, for_key, for_iid, for_descriptor, made, made_for, union_ext}
use Rattle.meaning.proofs.Facts.Valids.{entry_parts, unique, valid_Sound}

module _ (A : List (Entry Key)) (v : Valid A) (e : Entry Key) (m : In e A) where
  own_iid : iid_in A (entry_key e) ≡ entry_iid e
  own_iid = elim (ℕ_discrete (entry_iid e) 0) [
    | yes z ↦ elim (ℕ_discrete (iid_in A (entry_key e)) 0) [
      | yes y ↦ y ∙ sym z
      | no n ↦
          let r = said-In says_iid (entry_key e, iid_in A (entry_key e)) A (iid_fact A (entry_key e) n) in
          let s = iid_says r.0 (entry_key e) (iid_in A (entry_key e)) r.2 in
          sym s.1 ∙ ap entry_iid (unique A v r.0 e r.1 m s.0)
    ]
    | no n ↦ iid_is A (valid_Sound A v).iids (entry_key e) (entry_iid e) (In-said says_iid e (entry_key e, entry_iid e) A m (says_iid_lem e n))
  ]

  own_descriptor : descriptor_for A (entry_key e) ≡ entry_descriptor e
  own_descriptor = go (descriptor_for A (entry_key e)) refl (entry_descriptor e) refl
    where
      go : (a : Option (Descriptor Key)) → descriptor_for A (entry_key e) ≡ a → (b : Option (Descriptor Key)) → entry_descriptor e ≡ b → a ≡ b
      go none p none q = refl
      go a p (some d) q = sym p ∙ descriptor_is A (valid_Sound A v).descriptors (entry_key e) d (In-said says_descriptor e (entry_key e, d) A m (says_descriptor_lem e d q))
      go (some d) p none q =
          let r = said-In says_descriptor (entry_key e, d) A (descriptor_fact A (entry_key e) d p) in
          let s = descriptor_says r.0 (entry_key e) d r.2 in
          sym s.1 ∙ ap entry_descriptor (unique A v r.0 e r.1 m s.0) ∙ q

  -- the entry made for the key of an entry is that entry
  pub own_entry : entry_for A (entry_key e) ≡ e
  own_entry = entry_parts (entry_for A (entry_key e)) e (for_key A (entry_key e)) (for_iid A (entry_key e) ∙ own_iid) (for_descriptor A (entry_key e) ∙ own_descriptor)

module _ (A : List (Entry Key)) (v : Valid A) where
  in_union : Sub A (union A)
  in_union e m = rw (own_entry A v e m) at (made A (entry_key e) (entry_key_lem e A m))

  union_in_lem : Sub (union A) A
  union_in_lem e m =
      let r = made_for A e m in
      let s = key_entry r.0 A r.1 in
      rw (r.2, s.2, own_entry A v s.0 s.1) s.1

  pub union_means : MeanSame (union A) A
  union_means = (union_in_lem, in_union)

module _ (A B : List (Entry Key)) (v : Valid A) (w : Valid B) where
  pub mean_union : MeanSame A B → union A ≡ union B
  mean_union m = union_ext A B (Within-Sub A B m.0) (Within-Sub B A m.1) (valid_Sound B w).iids (valid_Sound B w).descriptors

  pub union_mean : union A ≡ union B → MeanSame A B
  union_mean e = (λ z i. union_in_lem B w z (rw e at (in_union A v z i)), λ z i. union_in_lem A v z (rw (← e) at (in_union B w z i)))
