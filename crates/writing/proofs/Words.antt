-- A word of the pool: where its bytes end, and the bytes of a name.
-- Assumes nothing.
use mathlib.Core.Path.{◌≡◌, sym, ap, ◌∙◌}
use mathlib.Core.List.{List}
use Prim.Native.Nat.{ℕ, ◌+◌, ◌-◌, ◌≤◌, ◌<◌}
use native.Mathlib.Omega.{arith}
use lib.ListN.{length, get_or, set}
use lib.Seq.{sets}
use Rattle.number.specs.Part.{part}
use Rattle.key.specs.Word.{Leads, word_end, word_at}
use Rattle.key.proofs.Ends.{word_from, end_next, end_is, length_word}
use Rattle.decimal.proofs.Stores.{snoc}
use Rattle.meaning.specs.Normal.Size.{name_size}
use Rattle.meaning.specs.Normal.Record.{name_bytes}

-- a walk from p to i has met no zero byte
pub record Walk (s : List ℕ) (p i : ℕ) : Type 0 where
  pub from : p ≤ i
  pub same : word_end s p ≡ word_end s i
  pub ended : word_end s i < length s

module _ (s : List ℕ) (p : ℕ) where
  pub walk_start : word_end s p < length s → Walk s p p
  walk_start h = record { from = omega arith; same = λ i. word_end s p; ended = h }

  module _ (i : ℕ) (w : Walk s p i) where
    pub walk_inside : i < length s
    walk_inside = omega (arith, w.ended, word_from s i)

    pub Walk-next : (get_or s i 0 ≡ 0 → ⊥) → Walk s p (i + 1)
    Walk-next z =
        let e = end_next s i walk_inside z in
        record { from = omega (arith, w.from); same = w.same ∙ e; ended = omega (arith, w.ended, e) }

    pub walk_done : get_or s i 0 ≡ 0 → i ≡ word_end s p
    walk_done z = sym (w.same ∙ end_is s i i (omega arith) walk_inside z (λ j a b. absurd (omega arith)))

-- the pool pointer q leads to a name
module _ (s : List ℕ) (q : ℕ) where
  pub length_name_at : name_size (word_at s (q - 1)) ≡ word_end s (q - 1) - (q - 1) + 1
  unfolding name_size
  length_name_at = ap (λ (n : ℕ). n + 1) (length_word s (q - 1))

  -- its bytes are copied, and a zero byte is put after them
  pub name_put : Leads s q → (l l₁ : List ℕ) (n : ℕ) → n ≡ word_end s (q - 1) - (q - 1) → l₁ ≡ sets l 0 (part s (q - 1) (q - 1 + (word_end s (q - 1) - (q - 1)))) → set l₁ n 0 ≡ sets l 0 (name_bytes (word_at s (q - 1)))
  unfolding name_bytes word_at
  name_put h l l₁ n z e =
      let to : q - 1 + (word_end s (q - 1) - (q - 1)) ≡ word_end s (q - 1) = omega (arith, word_from s (q - 1)) in
      let f : l₁ ≡ sets l 0 (word_at s (q - 1)) = e ∙ ap (λ (j : ℕ). sets l 0 (part s (q - 1) j)) to in
      ap (λ (k : List ℕ). set k n 0) f ∙ snoc (word_at s (q - 1)) l 0 n 0 (omega (arith, length_word s (q - 1)))
