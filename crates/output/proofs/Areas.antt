-- Two areas of the output that do not meet, each grown at its end: the directory, and the pool after it.
-- Assumes nothing.
use mathlib.Core.Path.{◌≡◌, refl, sym, ap, ◌∙◌}
use mathlib.Core.List.{List, [], ◌∷◌, ◌++◌}
use Prim.Native.Nat.{ℕ, suc, ◌+◌, ◌≤◌}
use native.Mathlib.Omega.{arith}
use lib.ListN.{length, set}
use lib.Seq.{sets, set_comm}
use Rattle.decimal.proofs.Stores.{follow}

set-sets : (xs l : List ℕ) (i j y : ℕ) → i + length xs ≤ j → set (sets l i xs) j y ≡ sets (set l j y) i xs
set-sets [] l i j y h = refl
set-sets (x ∷ xs) l i j y h = set-sets xs (set l i x) (suc i) j y (omega arith) ∙ ap (λ (z : List ℕ). sets z (suc i) xs) (set_comm l i j x y (λ e. omega arith))

-- what is stored in one after the other may be stored before it
pub sets_comm : (ys xs l : List ℕ) (i j : ℕ) → i + length xs ≤ j → sets (sets l i xs) j ys ≡ sets (sets l j ys) i xs
sets_comm [] xs l i j h = refl
sets_comm (y ∷ ys) xs l i j h = ap (λ (z : List ℕ). sets z (suc j) ys) (set-sets xs l i j y h) ∙ sets_comm ys xs (set l j y) i (suc j) (omega arith)

-- a record more in each: the areas start at a and b, and are filled up to i and j
pub both_more : (l l₁ D P d p : List ℕ) (a b i j : ℕ) → l₁ ≡ sets (sets l a D) b P → i ≡ a + length D → i + length d ≤ b → j ≡ b + length P → sets (sets l₁ i d) j p ≡ sets (sets l a (D ++ d)) b (P ++ p)
both_more l l₁ D P d p a b i j e f h k =
    ap (λ (z : List ℕ). sets z j p)
    (ap (λ (z : List ℕ). sets z i d) e
    ∙ sym (sets_comm P d (sets l a D) i b h)
    ∙ ap (λ (z : List ℕ). sets z b P) (follow D d l a i f))
    ∙ follow P p (sets l a (D ++ d)) b j k
