-- Laws of tests and conditions on the elements of a list.
-- Assumes nothing.
use mathlib.Core.Path.{◌≡◌, refl, sym, ap, ◌∙◌}
use mathlib.Core.Bool.{Bool, true, false}
use mathlib.Core.Logic.{inl, inr}
use mathlib.Core.List.{List, [], ◌∷◌, ◌++◌, map}
use Rattle.number.specs.Choice.{when◌then◌else◌}
use Rattle.number.proofs.Choice.{both}
use Rattle.reader.specs.Rules.{All}
use Rattle.meaning.specs.Facts.Facts.{In}
use Rattle.meaning.specs.Facts.Conditions.{any_of}
use Rattle.meaning.proofs.Facts.Sets.{In-left, In-right}
use Rattle.meaning.proofs.Facts.Tests.{any_found}

-- ---- all

module _ {X : Type 0} (P : X → Type 0) where
  pub In-All : (xs : List X) → All P xs → (x : X) → In x xs → P x
  In-All [] a x x4 = elim x4 [ ]
  In-All (y ∷ ys) a x (inl e) = rw e a.0
  In-All (y ∷ ys) a x (inr i) = In-All ys a.1 x i

  pub All-In : (xs : List X) → ((x : X) → In x xs → P x) → All P xs
  All-In [] f = tt
  All-In (x ∷ xs) f = (f x (inl refl), All-In xs (λ y i. f y (inr i)))

-- ---- one

module _ {X : Type 0} (p : X → Bool) where
  pub any_first : (x : X) (xs : List X) → p x ≡ true → any_of p (x ∷ xs) ≡ true
  unfolding any_of when◌then◌else◌
  any_first x xs e = rw e refl

  -- x does not count
  pub any_next : (x : X) (xs : List X) → p x ≡ false → any_of p (x ∷ xs) ≡ any_of p xs
  unfolding any_of when◌then◌else◌
  any_next x xs e = rw e refl

  pub any_rest : (x : X) (xs : List X) → any_of p xs ≡ true → any_of p (x ∷ xs) ≡ true
  unfolding any_of
  any_rest x xs e = both (λ (t : Bool). t ≡ true) (p x) true (any_of p xs) (λ _. refl) (λ _. e)

  pub any_In : (xs : List X) (x : X) → In x xs → p x ≡ true → any_of p xs ≡ true
  any_In [] x x4 e = elim x4 [ ]
  any_In (y ∷ ys) x (inl q) e = any_first y ys (ap p (sym q) ∙ e)
  any_In (y ∷ ys) x (inr i) e = any_rest y ys (any_In ys x i e)

  pub any_left : (xs ys : List X) → any_of p xs ≡ true → any_of p (xs ++ ys) ≡ true
  any_left xs ys e = let r = any_found p xs e in any_In (xs ++ ys) r.0 (In-left r.0 xs ys r.1) r.2

  pub any_right : (xs ys : List X) → any_of p ys ≡ true → any_of p (xs ++ ys) ≡ true
  any_right xs ys e = let r = any_found p ys e in any_In (xs ++ ys) r.0 (In-right r.0 xs ys r.1) r.2

  -- none
  pub any_no : (xs : List X) → All (λ x. p x ≡ false) xs → any_of p xs ≡ false
  unfolding any_of
  any_no [] a = refl
  any_no (x ∷ xs) a = any_next x xs a.0 ∙ any_no xs a.1

pub any_mapped : {X Y : Type 0} (f : X → Y) (p : X → Bool) (q : Y → Bool) → ((x : X) → q (f x) ≡ p x) → (xs : List X) → any_of q (map f xs) ≡ any_of p xs
unfolding any_of
any_mapped f p q e [] = refl
any_mapped f p q e (x ∷ xs) = λ i. when e x i then true else any_mapped f p q e xs i
