-- What facts say of a key: the values they give it, and the first of these.
-- Assumes nothing.
use mathlib.Core.Path.{◌≡◌, refl, sym, ap, ◌∙◌}
use mathlib.Core.Logic.{inl, inr}
use mathlib.Core.Bool.{Bool, true, false}
use mathlib.Core.List.{List, [], ◌∷◌}
use mathlib.Core.Option.{Option, none, some}
use Prim.Native.Nat.{ℕ}
use native.Mathlib.Omega.{arith}
use Rattle.number.specs.Choice.{when◌then◌else◌}
use Rattle.key.specs.Key.{Key, same_key}
use Rattle.key.proofs.Orders.{same_key_lem, same_key_equal}
use Rattle.meaning.specs.Facts.Facts.{In, Sub}
use Rattle.meaning.specs.Facts.Union.{values_of, first_of}

pub some_equal : {X : Type 0} {x y : X} → ◌≡◌ {A = Option X} (some x) (some y) → x ≡ y
some_equal e = cc

pub not_some : {X Y : Type 0} {x : X} → ◌≡◌ {A = Option X} none (some x) → Y
not_some e = absurd (let z : ◌≡◌ {A = ℕ} 0 1 = cc in omega arith)

-- no key has two values
abbrev pub Single : {X : Type 0} → List (Key × X) → Type 0
Single {X} l = (k : Key) (x y : X) → In (k, x) l → In (k, y) l → x ≡ y

pub Single-Sub : {X : Type 0} (l m : List (Key × X)) → Sub l m → Single m → Single l
Single-Sub l m f h k x y i j = h k x y (f (k, x) i) (f (k, y) j)

-- ---- the first of a list

module _ {X : Type 0} where
  pub first_In : (l : List X) (x : X) → first_of l ≡ some x → In x l
  unfolding first_of
  first_In [] x e = not_some e
  first_In (y ∷ l) x e = inl (sym (some_equal e))

  pub first_none : (l : List X) (x : X) → first_of l ≡ none → In x l → ⊥
  unfolding first_of
  first_none [] x e i = elim i [ ]
  first_none (y ∷ l) x e i = not_some (sym e)

-- ---- the values of a key

module _ {X : Type 0} where
  pub In-values : (l : List (Key × X)) (k : Key) (x : X) → In (k, x) l → In x (values_of l k)
  unfolding values_of when◌then◌else◌
  In-values [] k x x3 = elim x3 [ ]
  In-values (f ∷ l) k x (inl e) =
      rw (same_key_lem f.0 k (ap (λ r. r.0) (sym e))) (inl (ap (λ r. r.1) e))
  In-values (f ∷ l) k x (inr i) = go (same_key f.0 k) (In-values l k x i)
    where
      go : (t : Bool) → In x (values_of l k) → In x (when t then f.1 ∷ values_of l k else values_of l k)
      go true j = inr j
      go false j = j

  pub values_In : (l : List (Key × X)) (k : Key) (x : X) → In x (values_of l k) → In (k, x) l
  unfolding values_of when◌then◌else◌
  values_In [] k x i = elim i [ ]
  values_In (f ∷ l) k x i = go (same_key f.0 k) refl (values_In l k x) i
    where
      go : (t : Bool) → same_key f.0 k ≡ t → (In x (values_of l k) → In (k, x) l) → In x (when t then f.1 ∷ values_of l k else values_of l k) → In (k, x) (f ∷ l)
      go true e ih (inl p) = let q = same_key_equal f.0 k e in inl (λ i. (sym q i, p i))
      go true e ih (inr j) = inr (ih j)
      go false e ih j = inr (ih j)

  -- the first value of k
  pub first_value : (l : List (Key × X)) (k : Key) (x : X) → first_of (values_of l k) ≡ some x → In (k, x) l
  first_value l k x e = values_In l k x (first_In (values_of l k) x e)

  pub no_value : (l : List (Key × X)) (k : Key) (x : X) → first_of (values_of l k) ≡ none → In (k, x) l → ⊥
  no_value l k x e i = first_none (values_of l k) x e (In-values l k x i)

  -- is the only one, where no key has two
  pub value_first : (l : List (Key × X)) → Single l → (k : Key) (x : X) → In (k, x) l → first_of (values_of l k) ≡ some x
  value_first l h k x i = go (first_of (values_of l k)) refl
    where
      go : (o : Option X) → first_of (values_of l k) ≡ o → first_of (values_of l k) ≡ some x
      go none e = absurd (no_value l k x e i)
      go (some y) e = e ∙ ap (λ (z : X). some z) (h k y x (first_value l k y e) i)

  -- a larger set of facts gives what a smaller one gives
  pub value_more : (l m : List (Key × X)) → Sub l m → Single m → (k : Key) (x : X) → first_of (values_of l k) ≡ some x → first_of (values_of m k) ≡ some x
  value_more l m f h k x e = value_first m h k x (f (k, x) (first_value l k x e))

  -- equal sets give the same
  pub value_ext : (l m : List (Key × X)) → Sub l m → Sub m l → Single m → (k : Key) → first_of (values_of l k) ≡ first_of (values_of m k)
  value_ext l m f g h k = go (first_of (values_of l k)) (first_of (values_of m k)) refl refl
    where
      go : (a b : Option X) → first_of (values_of l k) ≡ a → first_of (values_of m k) ≡ b → a ≡ b
      go none none p q = refl
      go (some x) b p q = sym (value_more l m f h k x p) ∙ q
      go none (some y) p q = sym p ∙ value_more m l g (Single-Sub l m f h) k y q
