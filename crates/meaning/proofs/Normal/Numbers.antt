-- Laws of the bytes of a number.
-- Assumes nothing.
use mathlib.Core.Path.{◌≡◌, sym, ap, ◌∙◌}
use mathlib.Core.List.{List, [], ◌∷◌, ◌++◌, append_assoc, append-nil}
use Prim.Native.Nat.{ℕ, zero, suc, ◌+◌, ◌*◌, ◌/◌, ◌%◌, ◌^◌, ◌≤◌, ◌<◌}
use native.Mathlib.Nat.{pow-suc, mul_assoc}
use native.Mathlib.Omega.{arith}
use lib.ListN.{length, get_or, take, drop}
use lib.Seq.{take-suc, drop-append-le, length-take-le}
use Rattle.number.proofs.Parts.{part_none}
use Rattle.number.specs.Number.{be}
use Rattle.number.specs.Part.{part}
use Rattle.reader.specs.Records.{Bytes}
use Rattle.meaning.specs.Normal.BigEndian.{bytes_of}

-- j + k bytes are j bytes, and then k bytes
pub bytes_add : (j k x y : ℕ) → y < 256 ^ k → bytes_of (j + k) (x * 256 ^ k + y) ≡ bytes_of j x ++ bytes_of k y
unfolding bytes_of
bytes_add j zero x y l =
    let e : j + 0 ≡ j = omega arith in
    let v : x * 256 ^ 0 + y ≡ x = omega arith in
    (λ i. bytes_of (e i) (v i)) ∙ sym (append-nil (bytes_of j x))
bytes_add j (suc k) x y l =
    let e : j + suc k ≡ suc (j + k) = omega arith in
    let w = x * 256 ^ k in
    let p : x * 256 ^ suc k ≡ w * 256 = rw (pow-suc 256 k) (sym (mul_assoc x (256 ^ k) 256)) in
    let v : x * 256 ^ suc k + y ≡ w * 256 + y = ap (λ (z : ℕ). z + y) p in
    let high : (w * 256 + y) / 256 ≡ w + y / 256 = omega arith in
    let low : (w * 256 + y) % 256 ≡ y % 256 = omega arith in
    let ih = bytes_add j k x (y / 256) (omega (arith, pow-suc 256 k)) in
    (λ i. bytes_of (e i) (v i)) ∙ (λ i. bytes_of (j + k) (high i) ++ (low i ∷ [])) ∙ (λ i. ih i ++ (y % 256 ∷ [])) ∙ append_assoc (bytes_of j x) (bytes_of k (y / 256)) (y % 256 ∷ [])

-- one byte more
part_snoc : (s : List ℕ) (i j : ℕ) → i ≤ j → j < length s → part s i (suc j) ≡ part s i j ++ (get_or s j 0 ∷ [])
unfolding part
part_snoc s i j l m = ap (drop i) (take-suc s j 0 m) ∙ drop-append-le i (take j s) (get_or s j 0 ∷ []) (omega (arith, length-take-le j s (omega arith)))

-- the bytes of a number that was read
pub Bytes-read : (s : List ℕ) → Bytes s → (k p : ℕ) → p + k ≤ length s → bytes_of k (be k s p) ≡ part s p (p + k)
unfolding bytes_of be
Bytes-read s b zero p l = sym (part_none s p (p + 0) (omega arith))
Bytes-read s b (suc k) p l =
    let small = b.small (p + k) in
    let high : (be k s p * 256 + get_or s (p + k) 0) / 256 ≡ be k s p = omega arith in
    let low : (be k s p * 256 + get_or s (p + k) 0) % 256 ≡ get_or s (p + k) 0 = omega arith in
    let ih = Bytes-read s b k p (omega arith) in
    let e : suc (p + k) ≡ p + suc k = omega arith in
    (λ i. bytes_of k (high i) ++ (low i ∷ [])) ∙ (λ i. ih i ++ (get_or s (p + k) 0 ∷ [])) ∙ sym (part_snoc s p (p + k) (omega arith) (omega arith)) ∙ ap (part s p) e
