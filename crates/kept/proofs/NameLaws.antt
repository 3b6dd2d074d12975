-- The name of a row.
-- Assumes nothing.
use mathlib.Core.Path.{◌≡◌, sym, ap, ◌∙◌}
use mathlib.Core.List.{List, ◌++◌}
use Prim.Native.Nat.{ℕ, ◌+◌, ◌-◌, ◌*◌, ◌≤◌}
use native.Mathlib.Omega.{arith}
use lib.ListN.{length, get_or, take, drop}
use lib.Seq.{take-add, length-take-le, drop-append_seam}
use Rattle.number.specs.Part.{part}
use Rattle.kept.specs.Names.{name_in}

-- the bytes from i up to j, lent
pub lent : (s : List ℕ) (i j : ℕ) → i ≤ j → j ≤ length s → take (j - i) (drop i s) ≡ part s i j
unfolding part
lent s i j h k =
    let z : j ≡ i + (j - i) = omega arith in
    let f : length (take i s) ≡ i = length-take-le i s (omega arith) in
    sym (ap (λ (n : ℕ). drop i (take n s)) z ∙ ap (drop i) (take-add i (j - i) s) ∙ ap (λ (n : ℕ). drop n (take i s ++ take (j - i) (drop i s))) (sym f) ∙ drop-append_seam (take i s) (take (j - i) (drop i s)))

-- the name of row k as the code takes it
pub lent_name : (rows store : List ℕ) (k : ℕ) → get_or rows (4 * k) 0 ≤ get_or rows (4 * k + 1) 0 → get_or rows (4 * k + 1) 0 ≤ length store → take (get_or rows (4 * k + 1) 0 - get_or rows (4 * k) 0) (drop (get_or rows (4 * k) 0) store) ≡ name_in rows store k
unfolding name_in
lent_name rows store k h l = lent store (get_or rows (4 * k) 0) (get_or rows (4 * k + 1) 0) h l
