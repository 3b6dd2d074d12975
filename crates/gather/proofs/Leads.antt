-- Pool pointers of rows as pointers into either pool.
-- Assumes nothing.
use mathlib.Core.Path.{◌≡◌, refl, sym, ap, ◌∙◌}
use mathlib.Core.List.{List}
use Prim.Native.Nat.{ℕ, ◌+◌, ◌-◌, ◌≤◌, ◌<◌}
use lib.ListN.{get_or}
use Rattle.number.specs.Limits.{file_limit, row_limit}
use Rattle.number.proofs.Choice.{is_eq, no_eq, is_lt, no_lt}
use Rattle.iids.specs.Cells.{cell}
use Rattle.gather.specs.Leading.{led_to, led_row, led_held, led_body, PointersIn, HeldIn, HoldersIn}

module _ (n r p : ℕ) where
  pub led_none : p ≡ 0 → led_to n r p ≡ 0
  unfolding led_to
  led_none z = sym (is_eq p 0 _ _ z refl)

  module _ (z : p ≡ 0 → ⊥) where
    pub led_low : r < n → led_to n r p ≡ p
    unfolding led_to
    led_low l = sym (no_eq p 0 _ _ z (is_lt r n _ _ l refl))

    pub led_high : n ≤ r → led_to n r p ≡ file_limit + p
    unfolding led_to
    led_high l = sym (no_eq p 0 _ _ z (no_lt r n _ _ l refl))

-- ---- the row that h tells

module _ (n : ℕ) (own : List ℕ) (h : ℕ) where
  pub held_zero : h ≡ 0 → 0 ≡ led_held n own h
  unfolding led_held
  held_zero z = is_eq h 0 _ _ z refl

  pub held_row : (h ≡ 0 → ⊥) → led_to n (h - 1) (get_or own (h - 1) 0) ≡ led_held n own h
  unfolding led_held cell
  held_row z = no_eq h 0 _ _ z refl

pub held_small : (own : List ℕ) (h : ℕ) → HeldIn own h → (h ≡ 0 → ⊥) → get_or own (h - 1) 0 ≤ file_limit
unfolding cell
held_small own h i z = i.small z

-- ---- what was read for row q of a view

module _ (pointers t : List ℕ) (c q r : ℕ) (l : q < c) (e : r ≡ get_or t q 0) where
  pub read_pointer : PointersIn pointers t c → (r < row_limit) × (get_or pointers r 0 ≤ file_limit)
  unfolding cell
  read_pointer i = rw e (i.row q l, i.small q l)

  pub read_holder : (holders : List ℕ) → HoldersIn pointers t holders c → (r < row_limit) × HeldIn pointers (get_or holders r 0)
  unfolding cell
  read_holder holders i = rw e (i.row q l, i.held q l)

  pub led_row_lem : (n : ℕ) → led_to n r (get_or pointers r 0) ≡ led_row n pointers t q
  unfolding led_row cell
  led_row_lem n = ap (λ (j : ℕ). led_to n j (get_or pointers j 0)) e

  pub led_body_lem : (n h : ℕ) (holders : List ℕ) → h ≡ get_or holders r 0 → led_held n pointers h ≡ led_body n pointers t holders q
  unfolding led_body cell
  led_body_lem n h holders f = ap (led_held n pointers) (f ∙ ap (λ (j : ℕ). get_or holders j 0) e)
