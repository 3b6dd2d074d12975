-- Fields stored one after another: those before the directory.
-- Assumes nothing.
use mathlib.Core.Path.{◌≡◌, refl, ap, ◌∙◌}
use mathlib.Core.List.{List, [], ◌∷◌, ◌++◌}
use Prim.Native.Nat.{ℕ, ◌+◌, ◌*◌}
use native.Mathlib.Omega.{arith}
use lib.ListN.{length, set, length-append}
use lib.Seq.{sets}
use Rattle.number.proofs.Choice.{is_eq, no_eq}
use Rattle.decimal.proofs.Stores.{snoc, chain}
use Rattle.reader.specs.Records.{magic}
use Rattle.meaning.specs.Normal.BigEndian.{bytes_of}
use Rattle.meaning.specs.Normal.Normal.{header_bytes, note_bytes}
use Rattle.meaning.proofs.Normal.Lengths.{length_bytes, length_header}
use Rattle.front.specs.Front.{directory_at, front_header, front_bytes}

pub directory_none : (c : ℕ) → c ≡ 0 → 0 ≡ directory_at c
unfolding directory_at
directory_none c e = is_eq _ _ _ _ e refl

pub directory_some : (c : ℕ) → (c ≡ 0 → ⊥) → 36 ≡ directory_at c
unfolding directory_at
directory_some c n = no_eq _ _ _ _ n refl

pub length_front : (minor c len : ℕ) → length (front_bytes minor c len) ≡ 36
unfolding front_bytes note_bytes
length_front minor c len = length-append (header_bytes (front_header minor c) len) (0x80 ∷ 0x00 ∷ 0x00 ∷ 0x00 ∷ []) ∙ omega (arith, length_header (front_header minor c) len)

pub front_stored : (minor c len d : ℕ) (l l₁ l₂ l₃ l₄ l₅ l₆ : List ℕ) → l₁ ≡ sets l 0 (magic ++ (1 ∷ [])) → l₂ ≡ sets (set l₁ 17 minor) 18 (bytes_of 2 c) → l₃ ≡ sets l₂ 20 (bytes_of 4 len) → d ≡ directory_at c → l₄ ≡ sets l₃ 24 (bytes_of 4 d) → l₅ ≡ sets l₄ 28 (bytes_of 4 (36 + 28 * c)) → l₆ ≡ sets l₅ 32 note_bytes → l₆ ≡ sets l 0 (front_bytes minor c len)
unfolding front_bytes front_header header_bytes
front_stored minor c len d l l₁ l₂ l₃ l₄ l₅ l₆ e f g z h i j =
    let a : List ℕ = magic ++ (1 ∷ minor ∷ []) in
    let one : set l₁ 17 minor ≡ sets l 0 a = ap (λ (k : List ℕ). set k 17 minor) e ∙ snoc (magic ++ (1 ∷ [])) l 0 17 minor refl in
    let b : List ℕ = a ++ bytes_of 2 c in
    let k : List ℕ = b ++ bytes_of 4 len in
    let m : List ℕ = k ++ bytes_of 4 (directory_at c) in
    let n : List ℕ = m ++ bytes_of 4 (36 + 28 * c) in
    let lb : length b ≡ 20 = length-append a (bytes_of 2 c) ∙ omega (arith, length_bytes 2 c) in
    let lk : length k ≡ 24 = length-append b (bytes_of 4 len) ∙ omega (arith, length_bytes 4 len, lb) in
    let lm : length m ≡ 28 = length-append k (bytes_of 4 (directory_at c)) ∙ omega (arith, length_bytes 4 (directory_at c), lk) in
    let ln : length n ≡ 32 = length-append m (bytes_of 4 (36 + 28 * c)) ∙ omega (arith, length_bytes 4 (36 + 28 * c), lm) in
    let two : l₂ ≡ sets l 0 b = chain l a (bytes_of 2 c) 0 18 one refl f in
    let three : l₃ ≡ sets l 0 k = chain l b (bytes_of 4 len) 0 20 two (omega (arith, lb)) g in
    let four : l₄ ≡ sets l 0 m = chain l k (bytes_of 4 (directory_at c)) 0 24 three (omega (arith, lk)) (h ∙ ap (λ (v : ℕ). sets l₃ 24 (bytes_of 4 v)) z) in
    let five : l₅ ≡ sets l 0 n = chain l m (bytes_of 4 (36 + 28 * c)) 0 28 four (omega (arith, lm)) i in
    chain l n note_bytes 0 32 five (omega (arith, ln)) j
