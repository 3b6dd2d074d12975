-- Chains of parents: a chain that ends does so within as many steps as there are keys, and sooner where there are fewer parents.
-- Assumes nothing.
use mathlib.Core.Path.{◌≡◌, refl, sym, ap, ◌∙◌}
use mathlib.Core.Logic.{◌⊎◌, inl, inr}
use mathlib.Core.List.{List, [], ◌∷◌}
use mathlib.Core.Option.{Option, none, some}
use Prim.Native.Nat.{ℕ, zero, suc, ◌≤◌, ◌<◌}
use native.Mathlib.Omega.{arith}
use lib.ListN.{length}
use Rattle.key.specs.Key.{Key}
use Rattle.meaning.specs.Facts.Facts.{In, Sub}
use Rattle.meaning.specs.Facts.Conditions.{climb, Ends}
use Rattle.meaning.proofs.Facts.Sets.{Distinct, weigh_ones, weigh-Sub}
use Rattle.meaning.proofs.Facts.Values.{some_equal, not_some}

-- n steps above k stands the last of the chain
abbrev pub Exact : (Key → Option Key) → ℕ → Key → Type 0
Exact up zero k = up k ≡ none
Exact up (suc n) k = (p : Key) × (up k ≡ some p) × Exact up n p

module _ (up : Key → Option Key) where
  pub climb-Exact : (n : ℕ) (k : Key) → climb n up (some k) ≡ none → (m : ℕ) × (m < n) × Exact up m k
  unfolding climb
  climb-Exact zero k h = not_some (sym h)
  climb-Exact (suc n) k h = go (up k) refl h (climb-Exact n)
    where
      go : (o : Option Key) → up k ≡ o → climb n up o ≡ none → ((p : Key) → climb n up (some p) ≡ none → (m : ℕ) × (m < n) × Exact up m p) → (m : ℕ) × (m < suc n) × Exact up m k
      go none e h ih = (0, omega arith, e)
      go (some p) e h ih = let r = ih p h in (suc r.0, omega (arith, r.1), (p, e, r.2))

  climb-none : (n : ℕ) → climb n up none ≡ none
  unfolding climb
  climb-none zero = refl
  climb-none (suc n) = refl

  pub Exact-climb : (m n : ℕ) (k : Key) → Exact up m k → m < n → climb n up (some k) ≡ none
  unfolding climb
  Exact-climb m zero k x h = absurd (omega arith)
  Exact-climb zero (suc n) k x h = rw x (climb-none n)
  Exact-climb (suc m) (suc n) k x h = rw x.1 (Exact-climb m n x.0 x.2 (omega arith))

  pub Exact-Ends : (m : ℕ) (k : Key) → Exact up m k → Ends up k
  Exact-Ends m k x = (suc m, Exact-climb m (suc m) k x (omega arith))

  pub Ends-Exact : (k : Key) → Ends up k → (m : ℕ) × Exact up m k
  Ends-Exact k e = let r = climb-Exact e.0 k e.1 in (r.0, r.2)

  Exact-unique : (m n : ℕ) (k : Key) → Exact up m k → Exact up n k → m ≡ n
  Exact-unique zero zero k x y = refl
  Exact-unique zero (suc n) k x y = not_some (sym x ∙ y.1)
  Exact-unique (suc m) zero k x y = not_some (sym y ∙ x.1)
  Exact-unique (suc m) (suc n) k x y =
      let e : x.0 ≡ y.0 = some_equal (sym x.1 ∙ y.1) in
      ap suc (Exact-unique m n y.0 (rw e at x.2) y.2)

  -- ---- the keys of a chain that ends

  passed : (n : ℕ) (k : Key) → Exact up n k → List Key
  passed zero k x = k ∷ []
  passed (suc n) k x = k ∷ passed n x.0 x.2

  last : (n : ℕ) (k : Key) → Exact up n k → Key
  last zero k x = k
  last (suc n) k x = last n x.0 x.2

  passed-length : (n : ℕ) (k : Key) (x : Exact up n k) → length (passed n k x) ≡ suc n
  unfolding passed
  passed-length zero k x = refl
  passed-length (suc n) k x = ap suc (passed-length n x.0 x.2)

  passed-Exact : (n : ℕ) (k : Key) (x : Exact up n k) (z : Key) → In z (passed n k x) → (m : ℕ) × (m ≤ n) × Exact up m z
  unfolding passed
  passed-Exact zero k x z (inr i) = elim i [ ]
  passed-Exact zero k x z (inl e) = (0, omega arith, rw e x)
  passed-Exact (suc n) k x z (inl e) = (suc n, omega arith, rw e x)
  passed-Exact (suc n) k x z (inr i) = let r = passed-Exact n x.0 x.2 z i in (r.0, omega (arith, r.1), r.2)

  passed-Distinct : (n : ℕ) (k : Key) (x : Exact up n k) → Distinct (passed n k x)
  unfolding passed
  passed-Distinct zero k x = (λ i. i, tt)
  passed-Distinct (suc n) k x =
      (λ i. let r = passed-Exact n x.0 x.2 k i in omega (arith, r.1, Exact-unique (suc n) r.0 k x r.2), passed-Distinct n x.0 x.2)

  -- fewer than the keys of a list that has them all
  passed_few : (ks : List Key) (n : ℕ) (k : Key) (x : Exact up n k) → Sub (passed n k x) ks → suc n ≤ length ks
  passed_few ks n k x f = omega (arith, passed-length n k x, weigh_ones (passed n k x), weigh_ones ks, weigh-Sub (λ _. 1) (λ _. 1) (λ _. omega arith) (passed n k x) ks (passed-Distinct n k x) f)

  passed-In : (ks : List Key) → ((z p : Key) → up z ≡ some p → In z ks) → (n : ℕ) (k : Key) (x : Exact up n k) → Sub (passed n k x) (last n k x ∷ ks)
  unfolding passed last
  passed-In ks h zero k x z (inr i) = elim i [ ]
  passed-In ks h zero k x z (inl e) = inl e
  passed-In ks h (suc n) k x z (inl e) = inr (h z x.0 (ap up e ∙ x.1))
  passed-In ks h (suc n) k x z (inr i) = passed-In ks h n x.0 x.2 z i

  -- a chain that ends has no more steps than there are keys with a parent
  pub steps_few : (ks : List Key) → ((z p : Key) → up z ≡ some p → In z ks) → (n : ℕ) (k : Key) → Exact up n k → n ≤ length ks
  steps_few ks h n k x = omega (arith, passed_few (last n k x ∷ ks) n k x (passed-In ks h n k x))

  closed_In : (ks : List Key) → ((z p : Key) → up z ≡ some p → In p ks) → (n : ℕ) (k : Key) (x : Exact up n k) → In k ks → Sub (passed n k x) ks
  unfolding passed
  closed_In ks h zero k x i z (inr j) = elim j [ ]
  closed_In ks h zero k x i z (inl e) = rw e i
  closed_In ks h (suc n) k x i z (inl e) = rw e i
  closed_In ks h (suc n) k x i z (inr j) = closed_In ks h n x.0 x.2 (h k x.0 x.1) z j

  -- and fewer than there are keys, where every parent is one
  pub steps_fewer : (ks : List Key) → ((z p : Key) → up z ≡ some p → In p ks) → (n : ℕ) (k : Key) → Exact up n k → In k ks → n < length ks
  steps_fewer ks h n k x i = omega (arith, passed_few ks n k x (closed_In ks h n k x i))

-- ---- fewer parents

-- where some steps are those of `other`, and a chain is known to end wherever they are not
pub Ends-beside : (up other : Key → Option Key) → ((k p : Key) → up k ≡ some p → Ends up k ⊎ (other k ≡ some p)) → (n : ℕ) (k : Key) → Exact other n k → Ends up k
Ends-beside up other h n k x = let r = go n k x (up k) refl in Exact-Ends up r.0 k r.1
  where
    go : (n : ℕ) (k : Key) → Exact other n k → (o : Option Key) → up k ≡ o → (m : ℕ) × Exact up m k
    go zero k x none e = (0, e)
    go (suc n) k x none e = (0, e)
    go zero k x (some p) e = elim (h k p e) [ inl a ↦ Ends-Exact up k a | inr q ↦ not_some (sym x ∙ q) ]
    go (suc n) k x (some p) e = elim (h k p e) [
      | inl a ↦ Ends-Exact up k a
      | inr q ↦
          let s : x.0 ≡ p = some_equal (sym x.1 ∙ q) in
          let r = go n p (rw s at x.2) (up p) refl in
          (suc r.0, (p, e, r.1))
    ]

pub Ends-fewer : (up other : Key → Option Key) → ((k p : Key) → up k ≡ some p → other k ≡ some p) → (k : Key) → Ends other k → Ends up k
Ends-fewer up other h k e = let r = Ends-Exact other k e in Ends-beside up other (λ k p q. inr (h k p q)) r.0 k r.1
