-- Sums of what stands below a number.
-- Assumes nothing.
use mathlib.Core.Path.{◌≡◌, refl, sym}
use mathlib.Core.List.{List}
use mathlib.Core.Logic.{inl, inr}
use Prim.Native.Nat.{ℕ, zero, suc, ◌+◌, ◌≤◌, ◌<◌}
use native.Mathlib.Omega.{arith}
use native.Mathlib.Numerals.{add-one}
use lib.ListN.{get_or}
use Rattle.number.proofs.Choice.{is_le, no_le}
use Rattle.number.proofs.Scans.{below}
use Rattle.iids.specs.Cells.{cell}
use Rattle.places.specs.Places.{up_to, body_ahead}

pub up_more : (f : ℕ → ℕ) (n : ℕ) → up_to f (n + 1) ≡ up_to f n + f n
unfolding up_to
up_more f n = rw (add-one n)

pub up_le : (f : ℕ → ℕ) (m n : ℕ) → m ≤ n → up_to f m ≤ up_to f n
unfolding up_to
up_le f m zero h = let e : m ≡ 0 = omega arith in rw e (omega arith)
up_le f m (suc n) h = elim (below m (suc n) h) [ inl e ↦ rw e (omega arith) | inr l ↦ omega (arith, up_le f m n (omega arith)) ]

pub up_ext : (f g : ℕ → ℕ) (n : ℕ) → ((i : ℕ) → i < n → f i ≡ g i) → up_to f n ≡ up_to g n
unfolding up_to
up_ext f g zero h = refl
up_ext f g (suc n) h = let a = up_ext f g n (λ i l. h i (omega arith)) in let b = h n (omega arith) in omega arith

pub up_rise : (f g : ℕ → ℕ) (n : ℕ) → ((i : ℕ) → i < n → f i ≤ g i) → up_to f n ≤ up_to g n
unfolding up_to
up_rise f g zero h = omega arith
up_rise f g (suc n) h = let a = up_rise f g n (λ i l. h i (omega arith)) in let b = h n (omega arith) in omega arith

-- the first apart
pub up_shift : (f : ℕ → ℕ) (n : ℕ) → up_to f (suc n) ≡ f 0 + up_to (λ i. f (suc i)) n
unfolding up_to
up_shift f zero = omega arith
up_shift f (suc n) = omega (arith, up_shift f n)

-- ---- bodies that stand before use u: those below i, of c

module _ (before sizes : List ℕ) (u : ℕ) where
  ahead_yes : (i : ℕ) → get_or before i 0 ≤ u → body_ahead before sizes u i ≡ get_or sizes i 0
  unfolding body_ahead
  ahead_yes i l = sym (is_le (get_or before i 0) u _ _ l refl)

  ahead_no : (i : ℕ) → u < get_or before i 0 → body_ahead before sizes u i ≡ 0
  unfolding body_ahead
  ahead_no i l = sym (no_le (get_or before i 0) u _ _ l refl)

  pub bodies_ahead : (i c : ℕ) → i ≤ c → ((j : ℕ) → j < i → get_or before j 0 ≤ u) → ((j : ℕ) → i ≤ j → j < c → u < get_or before j 0) → up_to (body_ahead before sizes u) c ≡ up_to (cell sizes) i
  unfolding up_to cell
  bodies_ahead i zero l a b = let e : i ≡ 0 = omega arith in rw e
  bodies_ahead i (suc c) l a b = elim (below i (suc c) l) [
    | inl e ↦ rw e (up_ext (body_ahead before sizes u) (cell sizes) (suc c) (λ j m. ahead_yes j (a j (omega arith))))
    | inr m ↦ omega (arith, bodies_ahead i c (omega arith) a (λ j x y. b j x (omega arith)), ahead_no c (b c (omega arith) (omega arith)))
  ]
