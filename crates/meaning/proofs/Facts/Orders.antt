-- The order of the normal form, for given IIDs, is a total order on keys.
-- Assumes nothing.
use Rattle.std.specs.declared.cmp.Ordering.TheVariants.{Equal, Greater, Less}
use Rattle.std.specs.declared.cmp.Ordering.{Ordering}
use mathlib.Core.Path.{◌≡◌, refl, sym, ◌∙◌}
use mathlib.Core.Logic.{◌⊎◌, inl, inr}
use Prim.Native.Nat.{ℕ, ◌<◌}
use native.Mathlib.Omega.{arith}
use Rattle.number.proofs.Choice.{is_lt, no_lt}
use Rattle.key.specs.Key.{Key, then_by, compare_keys}
use Rattle.key.proofs.Orders.{three, not_before_same, not_before_after, not_same_after, then_same, then_before, then_first, then_second, key_self, key_equal, key_before, key_through}
use Rattle.meaning.specs.Facts.Union.{compare_numbers, compare_by}
use Rattle.meaning.proofs.Facts.Sorts.{Total}

-- ---- numbers

module _ (a b : ℕ) where
  pub number_less : a < b → compare_numbers a b ≡ Less
  unfolding compare_numbers
  number_less h = sym (is_lt a b _ _ h refl)

  pub number_same : a ≡ b → compare_numbers a b ≡ Equal
  unfolding compare_numbers
  number_same h = sym (no_lt a b _ _ (omega arith) (no_lt b a _ _ (omega arith) refl))

  pub number_more : b < a → compare_numbers a b ≡ Greater
  unfolding compare_numbers
  number_more h = sym (no_lt a b _ _ (omega arith) (is_lt b a _ _ h refl))

  -- which it is
  pub data Numbers (o : Ordering) : Type 0 where
    less : a < b → o ≡ Less → Numbers o
    equal : a ≡ b → o ≡ Equal → Numbers o
    more : b < a → o ≡ Greater → Numbers o

  pub numbers : Numbers (compare_numbers a b)
  numbers = elim (three a b) [
    | inl h ↦ less h (number_less h)
    | inr t ↦ elim t [ inl h ↦ equal h (number_same h) | inr h ↦ more h (number_more h) ]
  ]

-- ---- keys

then_after : (a b : Ordering) → then_by a b ≡ Greater → (a ≡ Greater) ⊎ ((a ≡ Equal) × (b ≡ Greater))
unfolding then_by
then_after Less b e = not_before_after e
then_after Equal b e = inr (refl, e)
then_after Greater b e = inl refl

module _ (iid : Key → ℕ) where
  -- an IID less, or the same IID and the key before
  pub data Earlier (k l : Key) : Type 0 where
    by_iid : iid k < iid l → Earlier k l
    by_key : iid k ≡ iid l → compare_keys k l ≡ Less → Earlier k l

  pub by_before : (k l : Key) → compare_by iid k l ≡ Less → Earlier k l
  unfolding compare_by
  by_before k l e = go (numbers (iid k) (iid l)) (then_before (compare_numbers (iid k) (iid l)) (compare_keys k l) e)
    where
      go : {o : Ordering} → Numbers (iid k) (iid l) o → (o ≡ Less) ⊎ ((o ≡ Equal) × (compare_keys k l ≡ Less)) → Earlier k l
      go (less h p) s = by_iid h
      go (equal h p) (inl s) = not_before_same (sym s ∙ p)
      go (equal h p) (inr s) = by_key h s.1
      go (more h p) (inl s) = not_before_after (sym s ∙ p)
      go (more h p) (inr s) = not_same_after (sym s.0 ∙ p)

  pub before_by : (k l : Key) → Earlier k l → compare_by iid k l ≡ Less
  unfolding compare_by
  before_by k l (by_iid h) = then_first _ _ (number_less (iid k) (iid l) h)
  before_by k l (by_key h e) = then_second _ _ (number_same (iid k) (iid l) h) ∙ e

  self : (k : Key) → compare_by iid k k ≡ Equal
  unfolding compare_by
  self k = then_second _ _ (number_same (iid k) (iid k) refl) ∙ key_self k

  equal_keys : (k l : Key) → compare_by iid k l ≡ Equal → k ≡ l
  unfolding compare_by
  equal_keys k l e = key_equal k l (then_same (compare_numbers (iid k) (iid l)) (compare_keys k l) e).1

  turned_keys : (k l : Key) → compare_by iid k l ≡ Greater → compare_by iid l k ≡ Less
  unfolding compare_by
  turned_keys k l e = before_by l k (go (numbers (iid k) (iid l)) (then_after (compare_numbers (iid k) (iid l)) (compare_keys k l) e))
    where
      go : {o : Ordering} → Numbers (iid k) (iid l) o → (o ≡ Greater) ⊎ ((o ≡ Equal) × (compare_keys k l ≡ Greater)) → Earlier l k
      go (more h p) s = by_iid h
      go (equal h p) (inl s) = not_same_after (sym p ∙ s)
      go (equal h p) (inr s) = by_key (sym h) (key_before k l s.1)
      go (less h p) (inl s) = not_before_after (sym p ∙ s)
      go (less h p) (inr s) = not_before_same (sym p ∙ s.0)

  through_keys : (k l m : Key) → compare_by iid k l ≡ Less → compare_by iid l m ≡ Less → compare_by iid k m ≡ Less
  through_keys k l m e f = before_by k m (go (by_before k l e) (by_before l m f))
    where
      go : Earlier k l → Earlier l m → Earlier k m
      go (by_iid h) (by_iid g) = by_iid (omega arith)
      go (by_iid h) (by_key g q) = by_iid (omega arith)
      go (by_key h p) (by_iid g) = by_iid (omega arith)
      go (by_key h p) (by_key g q) = by_key (h ∙ g) (key_through k l m p q)

  pub ordered : Total (compare_by iid)
  ordered = record { self = self; equal = equal_keys; turned = turned_keys; through = through_keys }
