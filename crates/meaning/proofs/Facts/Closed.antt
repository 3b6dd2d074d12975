-- The union of what accepted files say is what an accepted file says.
-- Assumes nothing.
use mathlib.Core.Path.{◌≡◌, ◌∙◌}
use mathlib.Core.Logic.{inl, inr}
use mathlib.Core.List.{List, ◌++◌}
use mathlib.Core.Option.{Option, none, some}
use Prim.Native.Nat.{ℕ}
use native.Mathlib.Omega.{arith}
use Rattle.key.specs.Key.{Key}
use Rattle.reader.specs.Values.{Descriptor, descriptor, parent_of, Entry, entry, entry_key, entry_iid}
use Rattle.meaning.specs.Facts.Facts.{In, says_iid, says_descriptor, keys_of, iids_of, descriptors_of, Within}
use Rattle.meaning.specs.Facts.Union.{union}
use Rattle.meaning.specs.Facts.Conditions.{parent_in, Agree, TooMany}
use Rattle.meaning.specs.Refs.{AllRefs}
use Rattle.meaning.proofs.Refs.{refs_then}
use Rattle.meaning.specs.Facts.Valid.{Valid}
use Rattle.meaning.proofs.Facts.Sets.{In-left, In-right}
use Rattle.meaning.proofs.Facts.Said.{said-In, In-said, said-Sub, said_either, keys_Sub, says_iid_lem, descriptor_says}
use Rattle.meaning.proofs.Facts.Unions.{iid_some, descriptor_fact, union-entry, union_ext, union-Within, Within-union}
use Rattle.meaning.proofs.Facts.Tests.{parent_descriptor}
use Rattle.meaning.proofs.Facts.Agrees.{Agree-Sound, Sound-within}
use Rattle.meaning.proofs.Facts.Valids.{resolved_parts}
use Rattle.meaning.proofs.Facts.Sorted.{union_unique, union_order, union_few}

-- ---- references

pub parent_in_lem : {R : Type 0} (P : R → Type 0) (d : Descriptor R) (r : R) → AllRefs P d → parent_of d ≡ some r → P r
unfolding parent_of
parent_in_lem P (descriptor none ms ks g) r h e = absurd (let z : ◌≡◌ {A = Option _} none (some r) = e in let y : ◌≡◌ {A = ℕ} 0 1 = cc in omega arith)
parent_in_lem P (descriptor (some s) ms ks g) r h e = let q : s ≡ r = cc in rw q at h.0

-- ---- facts that need no others

-- a key with a descriptor has an IID, and a descriptor's references are keys
pub record Closed (es : List (Entry Key)) : Type 0 where
  pub resolved : (k : Key) (d : Descriptor Key) → In (k, d) (descriptors_of es) → (i : ℕ) × In (k, i) (iids_of es)
  pub references : (k : Key) (d : Descriptor Key) → In (k, d) (descriptors_of es) → AllRefs (λ l. In l (keys_of es)) d

pub Closed-Valid : (A : List (Entry Key)) → Valid A → Closed A
Closed-Valid A v = record {
  resolved = λ k d m.
      let r = found k d m in
      let s = descriptor_says r.0 k d r.2 in
      let z : entry_iid r.0 ≡ 0 → ⊥ = v.resolved (entry_key r.0) (entry_iid r.0) d (at k d m) in
      (entry_iid r.0, In-said says_iid r.0 (k, entry_iid r.0) A r.1 (says_iid_lem r.0 z ∙ (λ j. some (s.0 j, entry_iid r.0))));
  references = λ k d m. let r = found k d m in v.references (entry_key r.0) (entry_iid r.0) d (at k d m);
}
  where
    found : (k : Key) (d : Descriptor Key) → In (k, d) (descriptors_of A) → (e : Entry Key) × In e A × (says_descriptor e ≡ some (k, d))
    found k d m = said-In says_descriptor (k, d) A m

    at : (k : Key) (d : Descriptor Key) (m : In (k, d) (descriptors_of A)) → In (entry (entry_key (found k d m).0) (entry_iid (found k d m).0) (some d)) A
    at k d m = let r = found k d m in rw (← resolved_parts r.0 d (descriptor_says r.0 k d r.2).1) r.1

pub Closed-both : (A B : List (Entry Key)) → Closed A → Closed B → Closed (A ++ B)
Closed-both A B a b = record {
  resolved = λ k d m. elim (said_either says_descriptor A B (k, d) m) [
    | inl x ↦ let r = a.resolved k d x in (r.0, said-Sub says_iid A (A ++ B) (λ e i. In-left e A B i) (k, r.0) r.1)
    | inr x ↦ let r = b.resolved k d x in (r.0, said-Sub says_iid B (A ++ B) (λ e i. In-right e A B i) (k, r.0) r.1)
  ];
  references = λ k d m. elim (said_either says_descriptor A B (k, d) m) [
    | inl x ↦ refs_then (λ l. In l (keys_of A)) (λ l. In l (keys_of (A ++ B))) (keys_Sub A (A ++ B) (λ e i. In-left e A B i)) d (a.references k d x)
    | inr x ↦ refs_then (λ l. In l (keys_of B)) (λ l. In l (keys_of (A ++ B))) (keys_Sub B (A ++ B) (λ e i. In-right e A B i)) d (b.references k d x)
  ];
}

-- every parent is a key
pub Closed-parents : (es : List (Entry Key)) → Closed es → (k p : Key) → parent_in es k ≡ some p → In p (keys_of es)
Closed-parents es c k p e = let r = parent_descriptor es k p e in parent_in_lem (λ l. In l (keys_of es)) r.0 p (c.references k r.0 r.1) r.2

-- ---- the union

module _ (es : List (Entry Key)) (a : Agree es) where
  -- says the same
  pub union_says : Within (union es) es × Within es (union es)
  union_says = let s = Agree-Sound es a in (union-Within es, Within-union es s.iids s.descriptors)

  -- is its own union
  pub union_again : union (union es) ≡ union es
  union_again = let s = Agree-Sound es a in union_ext (union es) es union_says.0 union_says.1 s.iids s.descriptors

  -- and is what an accepted file says
  pub union-Valid : Closed es → (TooMany es → ⊥) → Valid (union es)
  union-Valid c few =
      let w = union_says in
      record {
        keys = union_unique es;
        iids = λ i j l h e. elim (union_order es a.owners i j l h) [ inl z ↦ z | inr m ↦ absurd (omega arith) ];
        resolved = λ k i d m z.
            let r = union-entry es k i (some d) m in
            let s = c.resolved k d (descriptor_fact es k d r.2) in
            iid_some es k s.0 s.1 (r.1 ∙ z);
        references = λ k i d m. refs_then (λ l. In l (keys_of es)) (λ l. In l (keys_of (union es))) w.1.keys d (c.references k d (descriptor_fact es k d (union-entry es k i (some d) m).2));
        chains = (Sound-within (union es) es w.0 (Agree-Sound es a)).chains;
        few = omega arith;
      }

pub Valid-few : (A : List (Entry Key)) → Valid A → TooMany A → ⊥
Valid-few A v h = omega (arith, union_few A, v.few)
