-- A part of the output that is lent from a place on, and what its writer leaves of the whole.
-- Assumes nothing.
use mathlib.Core.Path.{◌≡◌, ◌∙◌}
use mathlib.Core.List.{List, [], ◌∷◌, ◌++◌, append-nil}
use Prim.Native.Nat.{ℕ, suc, ◌+◌, ◌-◌}
use native.Mathlib.Nat.{add-zero, add-suc}
use native.Mathlib.Omega.{arith}
use lib.ListN.{length, take, drop, set, length-take, length-drop, take-append-drop, drop_of_length-le}
use lib.Seq.{sets, take_all, take-set-le, drop-set-add}
use Rattle.decimal.proofs.Stores.{chain}

-- the part of l from k on
abbrev pub rest : List ℕ → ℕ → List ℕ
rest l k = take (length l - k) (drop k l)

-- l, where that part became ys
abbrev pub back : List ℕ → ℕ → List ℕ → List ℕ
back l k ys = take k l ++ (ys ++ drop (length l - k) (drop k l))

pub length-rest : (l : List ℕ) (k : ℕ) → length (rest l k) ≡ length l - k
length-rest l k = simp (length-take, length-drop) (omega arith)

within : (vs l : List ℕ) (k j : ℕ) → take k l ++ sets (drop k l) j vs ≡ sets l (k + j) vs
within [] l k j = take-append-drop k l
within (v ∷ vs) l k j =
    rw (← drop-set-add k l j v, ← take-set-le k l (k + j) v (omega arith))
    (within vs (set l (k + j) v) k (suc j) ∙ rw add-suc)

-- the writer stored vs at the front of its part
pub lent : (l ys vs : List ℕ) (k : ℕ) → ys ≡ sets (rest l k) 0 vs → back l k ys ≡ sets l k vs
lent l ys vs k e =
    rw (e, take_all (length l - k) (drop k l) (simp length-drop (omega arith)), drop_of_length-le (drop k l) {i = length l - k} (simp length-drop (omega arith)), append-nil)
    (within vs l k 0 ∙ rw add-zero)

-- and its part came right after vs
pub lent_after : (l l₁ ys vs ws : List ℕ) (k : ℕ) → l₁ ≡ sets l 0 vs → k ≡ length vs → ys ≡ sets (rest l₁ k) 0 ws → back l₁ k ys ≡ sets l 0 (vs ++ ws)
lent_after l l₁ ys vs ws k e h f = chain l vs ws 0 k e (omega arith) (lent l₁ ys ws k f)
