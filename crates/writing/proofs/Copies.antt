-- The bytes of a part of the pool, one by one.
-- Assumes nothing.
use mathlib.Core.Path.{◌≡◌, sym, ap, ◌∙◌}
use mathlib.Core.List.{List, [], ◌∷◌, ◌++◌}
use Prim.Native.Nat.{ℕ, ◌+◌, ◌-◌, ◌≤◌}
use native.Mathlib.Omega.{arith}
use lib.ListN.{length, take, drop}
use lib.Seq.{take-add, length-take-le, drop-append_seam}
use Rattle.number.specs.Part.{part}
use Rattle.number.proofs.Parts.{part_none, part-cons}
use Rattle.reader.specs.Records.{ShowsByte}

module _ (s : List ℕ) where
  -- a byte, and those after it
  pub more_bytes : (p b n : ℕ) → ShowsByte s p b → p + (1 + n) ≤ length s → part s p (p + (1 + n)) ≡ b ∷ part s (p + 1) (p + 1 + n)
  more_bytes p b n h m =
      let z : p + (1 + n) ≡ p + 1 + n = omega arith in
      part-cons s p (p + (1 + n)) (omega arith) m ∙ (λ i. h.value i ∷ part s (p + 1) (z i))

  pub one_byte : (p b : ℕ) → ShowsByte s p b → part s p (p + 1) ≡ b ∷ []
  one_byte p b h = more_bytes p b 0 h (omega (arith, h.inside)) ∙ ap (λ (v : List ℕ). b ∷ v) (part_none s (p + 1) (p + 1 + 0) (omega arith))

  pub two_bytes : (p b x : ℕ) → ShowsByte s p b → ShowsByte s (p + 1) x → part s p (p + 2) ≡ b ∷ x ∷ []
  two_bytes p b x h k = more_bytes p b 1 h (omega (arith, k.inside)) ∙ ap (λ (v : List ℕ). b ∷ v) (one_byte (p + 1) x k)

  pub three_bytes : (p b x y : ℕ) → ShowsByte s p b → ShowsByte s (p + 1) x → ShowsByte s (p + 2) y → part s p (p + 3) ≡ b ∷ x ∷ y ∷ []
  three_bytes p b x y h k l =
      let z : p + 1 + 1 ≡ p + 2 = omega arith in
      more_bytes p b 2 h (omega (arith, l.inside)) ∙ ap (λ (v : List ℕ). b ∷ v) (two_bytes (p + 1) x y k (rw z l))

-- the n bytes at i, lent
pub lent_part : (s : List ℕ) (i n : ℕ) → i + n ≤ length s → take (i + n - i) (drop i s) ≡ part s i (i + n)
unfolding part
lent_part s i n h =
    let z : i + n - i ≡ n = omega arith in
    let e : drop i (take (i + n) s) ≡ drop i (take i s ++ take n (drop i s)) = ap (drop i) (take-add i n s) in
    let f : length (take i s) ≡ i = length-take-le i s (omega arith) in
    ap (λ (k : ℕ). take k (drop i s)) z ∙ sym (e ∙ ap (λ (k : ℕ). drop k (take i s ++ take n (drop i s))) (sym f) ∙ drop-append_seam (take i s) (take n (drop i s)))
