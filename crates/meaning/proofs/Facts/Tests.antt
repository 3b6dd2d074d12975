-- The tests of refusals 21 to 24 say what their conditions say.
-- Assumes nothing.
use mathlib.Core.Path.{◌≡◌, refl, sym, ap, ◌∙◌}
use mathlib.Core.Logic.{◌⊎◌, inl, inr}
use mathlib.Core.Bool.{Bool, true, false, not}
use mathlib.Core.List.{List, [], ◌∷◌}
use mathlib.Core.Option.{Option, none, some}
use Prim.Native.Nat.{ℕ, suc, ◌≤◌, ◌<◌}
use native.Mathlib.Omega.{arith}
use lib.ListN.{length}
use Rattle.number.specs.Choice.{when◌then◌else◌, ◌=?◌}
use Rattle.number.proofs.Choice.{both, from_yes_eq, from_not_eq}
use Rattle.number.proofs.Scans.{clash}
use Rattle.key.specs.Key.{Key, same_key}
use Rattle.key.proofs.Orders.{same_key_lem, same_key_equal}
use Rattle.reader.specs.Values.{Descriptor, parent_of, Entry, entry_key}
use Rattle.meaning.specs.Facts.Equal.{descriptor?, decided, same_descriptor}
use Rattle.meaning.specs.Facts.Facts.{In, keys_of, iids_of, descriptors_of}
use Rattle.meaning.specs.Facts.Union.{values_of, iid_in, descriptor_for}
use Rattle.meaning.specs.Facts.Conditions.{any_of, differ, TwoIids, SharedIid, TwoDescriptors, Endless, two_iids, shares_with, shared_iid, two_descriptors, parent_from, parent_in, climb, Ends, is_some, endless}
use Rattle.meaning.proofs.Facts.Sets.{length-map}
use Rattle.meaning.proofs.Facts.Values.{In-values, values_In, not_some}
use Rattle.meaning.proofs.Facts.Said.{descriptor_key, iid_key}
use Rattle.meaning.proofs.Facts.Unions.{iid_fact, descriptor_fact}
use Rattle.meaning.proofs.Facts.Chains.{Exact, Ends-Exact, Exact-climb, steps_few, steps_fewer}

-- the test t holds exactly when P does
pub record Tests (t : Bool) (P : Type 0) : Type 0 where
  pub holds : t ≡ true → P
  pub fails : t ≡ false → P → ⊥

-- two tests of one thing
pub Tests-same : (t u : Bool) {P : Type 0} → Tests t P → Tests u P → t ≡ u
Tests-same true true a b = refl
Tests-same true false a b = absurd (b.fails refl (a.holds refl))
Tests-same false true a b = absurd (a.fails refl (b.holds refl))
Tests-same false false a b = refl

pub flip_true : (t : Bool) → not t ≡ true → t ≡ false
flip_true true e = clash false e refl
flip_true false e = refl

pub flip_false : (t : Bool) → not t ≡ false → t ≡ true
flip_false true e = refl
flip_false false e = clash true refl e

-- ---- one of a list

module _ {X : Type 0} (p : X → Bool) where
  pub any_found : (l : List X) → any_of p l ≡ true → (x : X) × In x l × (p x ≡ true)
  unfolding any_of when◌then◌else◌
  any_found [] e = clash false e refl
  any_found (x ∷ l) e = go (p x) refl (any_found l) e
    where
      go : (t : Bool) → p x ≡ t → (any_of p l ≡ true → (y : X) × In y l × (p y ≡ true)) → (when t then true else any_of p l) ≡ true → (y : X) × In y (x ∷ l) × (p y ≡ true)
      go true h ih e = (x, inl refl, h)
      go false h ih e = let r = ih e in (r.0, inr r.1, r.2)

  pub any_none : (l : List X) → any_of p l ≡ false → (x : X) → In x l → p x ≡ false
  unfolding any_of when◌then◌else◌
  any_none [] e y i = elim i [ ]
  any_none (x ∷ l) e y i = go (p x) refl (any_none l) e i
    where
      go : (t : Bool) → p x ≡ t → (any_of p l ≡ false → (y : X) → In y l → p y ≡ false) → (when t then true else any_of p l) ≡ false → In y (x ∷ l) → p y ≡ false
      go true h ih e i = clash true refl e
      go false h ih e (inl q) = ap p q ∙ h
      go false h ih e (inr j) = ih e y j

-- ---- two that differ

module _ {X : Type 0} (same : X → X → Bool) (decides : (x y : X) → Tests (same x y) (x ≡ y)) where
  differ_found : (l : List X) → differ same l ≡ true → (x : X) × (y : X) × In x l × In y l × (x ≡ y → ⊥)
  unfolding differ
  differ_found [] e = clash false e refl
  differ_found (x ∷ l) e = let r = any_found (λ y. not (same x y)) l e in (x, r.0, inl refl, inr r.1, (decides x r.0).fails (flip_true (same x r.0) r.2))

  -- each is the first
  differ_none : (x : X) (l : List X) → differ same (x ∷ l) ≡ false → (y : X) → In y (x ∷ l) → x ≡ y
  unfolding differ
  differ_none x l e y (inl q) = sym q
  differ_none x l e y (inr i) = (decides x y).holds (flip_false (same x y) (any_none (λ y. not (same x y)) l e y i))

  differ_fails : (l : List X) → differ same l ≡ false → (x y : X) → In x l → In y l → x ≡ y
  differ_fails [] e x y i j = elim i [ ]
  differ_fails (z ∷ l) e x y i j = sym (differ_none z l e x i) ∙ differ_none z l e y j

  pub two_values : (l : List (Key × X)) (k : Key) → Tests (differ same (values_of l k)) ((x : X) × (y : X) × In (k, x) l × In (k, y) l × (x ≡ y → ⊥))
  two_values l k = record {
    holds = λ e. let r = differ_found (values_of l k) e in (r.0, r.1, values_In l k r.0 r.2, values_In l k r.1 r.3, r.4);
    fails = λ e q. q.4 (differ_fails (values_of l k) e q.0 q.1 (In-values l k q.0 q.2) (In-values l k q.1 q.3));
  }

-- ---- 21, 22, 23

same_numbers : (i j : ℕ) → Tests (i =? j) (i ≡ j)
same_numbers i j = record { holds = from_yes_eq i j; fails = from_not_eq i j }

pub same_descriptors : (c d : Descriptor Key) → Tests (same_descriptor c d) (c ≡ d)
unfolding same_descriptor decided
same_descriptors c d = go (descriptor? c d)
  where
    go : (x : Dec (c ≡ d)) → Tests (decided x) (c ≡ d)
    go (yes p) = record { holds = λ e. p; fails = λ e. clash true refl e }
    go (no f) = record { holds = λ e. clash false e refl; fails = λ e. f }

module _ (es : List (Entry Key)) (k : Key) where
  pub two_iids_lem : Tests (two_iids es k) (TwoIids es k)
  unfolding two_iids
  two_iids_lem = two_values ◌=?◌ same_numbers (iids_of es) k

  pub two_descriptors_lem : Tests (two_descriptors es k) (TwoDescriptors es k)
  unfolding two_descriptors
  two_descriptors_lem = two_values same_descriptor same_descriptors (descriptors_of es) k

  shares_with_lem : (l : Key) → Tests (shares_with es k l) ((l ≡ k → ⊥) × (iid_in es l ≡ iid_in es k))
  unfolding shares_with
  shares_with_lem l =
      both (λ (t : Bool). Tests t ((l ≡ k → ⊥) × (iid_in es l ≡ iid_in es k))) (same_key l k) false (iid_in es l =? iid_in es k)
      (λ e. record { holds = λ h. clash false h refl; fails = λ _ q. q.0 (same_key_equal l k e) })
      (λ e. record { holds = λ h. ((λ q. clash (same_key l k) (same_key_lem l k q) e), from_yes_eq (iid_in es l) (iid_in es k) h); fails = λ h q. from_not_eq (iid_in es l) (iid_in es k) h q.1 })

  pub shared_iid_lem : Tests (shared_iid es k) (SharedIid es k)
  unfolding shared_iid
  shared_iid_lem =
      both (λ (t : Bool). Tests t (SharedIid es k)) (iid_in es k =? 0) false (any_of (shares_with es k) (keys_of es))
      (λ e. record { holds = λ h. clash false h refl; fails = λ _ q. q.0 (from_yes_eq (iid_in es k) 0 e) })
      (λ e. record {
        holds = λ h. let r = any_found (shares_with es k) (keys_of es) h in let s = (shares_with_lem r.0).holds r.2 in (from_not_eq (iid_in es k) 0 e, (r.0, s.0, s.1));
        fails = λ h q.
            let l : Key = q.1.0 in
            let m : In l (keys_of es) = iid_key es l (iid_in es l) (iid_fact es l (λ z. q.0 (sym q.1.2 ∙ z))) in
            (shares_with_lem l).fails (any_none (shares_with es k) (keys_of es) h l m) (q.1.1, q.1.2);
      })

-- ---- 24

module _ (es : List (Entry Key)) where
  -- a parent is that of the key's descriptor
  pub parent_descriptor : (k p : Key) → parent_in es k ≡ some p → (d : Descriptor Key) × In (k, d) (descriptors_of es) × (parent_of d ≡ some p)
  unfolding parent_in parent_from
  parent_descriptor k p h = go (descriptor_for es k) refl h
    where
      go : (o : Option (Descriptor Key)) → descriptor_for es k ≡ o → parent_from o ≡ some p → (d : Descriptor Key) × In (k, d) (descriptors_of es) × (parent_of d ≡ some p)
      go none e h = not_some h
      go (some d) e h = (d, descriptor_fact es k d e, h)

  parent_key : (k p : Key) → parent_in es k ≡ some p → In k (keys_of es)
  parent_key k p h = let r = parent_descriptor k p h in descriptor_key es k r.0 r.1

  -- so many steps tell whether a chain ends, if none that ends has more
  chain_test : (n : ℕ) (k : Key) → ((m : ℕ) → Exact (parent_in es) m k → m < n) → Tests (is_some (climb n (parent_in es) (some k))) (Endless es k)
  unfolding is_some
  chain_test n k f = go (climb n (parent_in es) (some k)) refl
    where
      go : (o : Option Key) → climb n (parent_in es) (some k) ≡ o → Tests (is_some o) (Endless es k)
      go none e = record { holds = λ h. clash false h refl; fails = λ _ g. g (n, e) }
      go (some z) e = record {
        holds = λ _ x. let r = Ends-Exact (parent_in es) k x in not_some (sym (Exact-climb (parent_in es) r.0 n k r.1 (f r.0 r.1)) ∙ e);
        fails = λ h. clash true refl h;
      }

  -- more than there are entries
  pub chain_enough : (n : ℕ) (k : Key) → length es < n → Tests (is_some (climb n (parent_in es) (some k))) (Endless es k)
  chain_enough n k l = chain_test n k (λ m x. omega (arith, length-map entry_key es, steps_few (parent_in es) (keys_of es) parent_key m k x))

  -- as many as ks, where every parent is one of these
  pub chain_closed : (ks : List Key) → ((z p : Key) → parent_in es z ≡ some p → In p ks) → (n : ℕ) (k : Key) → length ks ≤ n → In k ks → Tests (is_some (climb n (parent_in es) (some k))) (Endless es k)
  chain_closed ks h n k l i = chain_test n k (λ m x. omega (arith, steps_fewer (parent_in es) ks h m k x i))

  pub endless_test : (k : Key) → Tests (endless es k) (Endless es k)
  unfolding endless
  endless_test k = chain_enough (suc (length es)) k (omega arith)

  pub Ends-or_not : (k : Key) → Ends (parent_in es) k ⊎ Endless es k
  unfolding endless is_some
  Ends-or_not k = go (climb (suc (length es)) (parent_in es) (some k)) refl
    where
      go : (o : Option Key) → climb (suc (length es)) (parent_in es) (some k) ≡ o → Ends (parent_in es) k ⊎ Endless es k
      go none e = inl (suc (length es), e)
      go (some z) e = inr ((endless_test k).holds (ap is_some e))
