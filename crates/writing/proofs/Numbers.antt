-- The bytes of a number, as a high and a low half.
-- Assumes nothing.
use mathlib.Core.Path.{◌≡◌, sym, ap, ◌∙◌}
use mathlib.Core.List.{List, ◌++◌}
use Prim.Native.Nat.{ℕ, ◌+◌, ◌*◌, ◌/◌, ◌%◌, ◌^◌, ◌<◌}
use native.Mathlib.Numerals.{add-one}
use native.Mathlib.Omega.{arith}
use lib.ListN.{set}
use lib.Seq.{sets}
use Rattle.decimal.proofs.Stores.{chain}
use Rattle.meaning.specs.Normal.BigEndian.{bytes_of}
use Rattle.meaning.proofs.Normal.Lengths.{length_bytes}
use Rattle.meaning.proofs.Normal.Numbers.{bytes_add}

pub two_stored : (l : List ℕ) (at v : ℕ) → v < 65536 → set (set l at (v / 256)) (at + 1) (v % 256) ≡ sets l at (bytes_of 2 v)
unfolding bytes_of
two_stored l at v h =
    let a : v / 256 ≡ v / 256 % 256 = omega arith in
    λ i. set (set l at (a i)) (add-one at i) (v % 256)

-- two halves of k bytes, where w is 256 ^ k
pub halves_stored : (k w v : ℕ) (l l₁ l₂ : List ℕ) (at : ℕ) → w ≡ 256 ^ k → v ≡ v / w * w + v % w → v % w < w → l₁ ≡ sets l at (bytes_of k (v / w)) → l₂ ≡ sets l₁ (at + k) (bytes_of k (v % w)) → l₂ ≡ sets l at (bytes_of (k + k) v)
halves_stored k w v l l₁ l₂ at e d m a b =
    let x = v / w in
    let y = v % w in
    let z : v ≡ x * 256 ^ k + y = d ∙ ap (λ (u : ℕ). x * u + y) e in
    let q : bytes_of (k + k) v ≡ bytes_of k x ++ bytes_of k y = ap (bytes_of (k + k)) z ∙ bytes_add k k x y (rw (← e) m) in
    chain l (bytes_of k x) (bytes_of k y) at (at + k) a (ap (λ (u : ℕ). at + u) (sym (length_bytes k x))) b ∙ ap (sets l at) (sym q)
