-- What the writers of this crate store, and how many bytes it has.
-- Assumes nothing.
use mathlib.Core.Path.{◌≡◌, ap, ◌∙◌}
use mathlib.Core.List.{List, ◌++◌}
use Prim.Native.Nat.{ℕ, ◌+◌, ◌-◌, ◌≤◌}
use native.Mathlib.Omega.{arith}
use lib.ListN.{length, take, drop, set, replicate, length-append, length-drop, length-replicate, replicate-append-replicate}
use lib.Seq.{sets, length-take-le}
use Rattle.number.specs.Number.{be}
use Rattle.number.specs.Part.{part}
use Rattle.number.proofs.Parts.{length-part, part_rest}
use Rattle.decimal.proofs.Stores.{chain, snoc}
use Rattle.meaning.specs.Normal.BigEndian.{bytes_of}
use Rattle.meaning.proofs.Normal.Lengths.{length_bytes}
use Rattle.writing.proofs.Copies.{lent_part}
use Rattle.adopt.specs.Adopt.{head_bytes, moved_bytes}

-- one more zero byte
pub zeros_more : (l : List ℕ) (at i k : ℕ) → k ≡ at + i → set (sets l at (replicate i 0)) k 0 ≡ sets l at (replicate (i + 1) 0)
zeros_more l at i k e =
    snoc (replicate i 0) l at k 0 (omega (arith, length-replicate {A = ℕ} i 0))
    ∙ ap (λ (v : List ℕ). sets l at v) (replicate-append-replicate i 1 0)

-- ---- lengths

module _ (s : List ℕ) (z directory : ℕ) (long : 32 ≤ length s) where
  pub length_one : length (take 20 s ++ bytes_of 4 (length s + z)) ≡ 24
  length_one = omega (arith, length-append (take 20 s) (bytes_of 4 (length s + z)), length-take-le 20 s (omega arith), length_bytes 4 (length s + z))

  pub length_two : length (take 20 s ++ bytes_of 4 (length s + z) ++ bytes_of 4 directory) ≡ 28
  length_two = omega (arith, length-append (take 20 s ++ bytes_of 4 (length s + z)) (bytes_of 4 directory), length_one, length_bytes 4 directory)

  pub length_head : length (head_bytes s z directory) ≡ 32
  unfolding head_bytes
  length_head = omega (arith, length-append (take 20 s ++ bytes_of 4 (length s + z) ++ bytes_of 4 directory) (bytes_of 4 (be 4 s 28 + z)), length_two, length_bytes 4 (be 4 s 28 + z))

  -- one field after another
  pub head_stored : (l l₁ l₂ l₃ l₄ : List ℕ) → l₁ ≡ sets l 0 (take 20 s) → l₂ ≡ sets l₁ 20 (bytes_of 4 (length s + z)) → l₃ ≡ sets l₂ 24 (bytes_of 4 directory)
      → l₄ ≡ sets l₃ 28 (bytes_of 4 (be 4 s 28 + z)) → l₄ ≡ sets l 0 (head_bytes s z directory)
  unfolding head_bytes
  head_stored l l₁ l₂ l₃ l₄ a b c d =
      chain l (take 20 s ++ bytes_of 4 (length s + z) ++ bytes_of 4 directory) (bytes_of 4 (be 4 s 28 + z)) 0 28
      (chain l (take 20 s ++ bytes_of 4 (length s + z)) (bytes_of 4 directory) 0 24
      (chain l (take 20 s) (bytes_of 4 (length s + z)) 0 20 a (omega (arith, length-take-le 20 s (omega arith))) b)
      (omega (arith, length_one)) c)
      (omega (arith, length_two)) d

  module _ (cut : ℕ) (low : 32 ≤ cut) (high : cut ≤ length s) where
    pub length_front : length (head_bytes s z directory ++ part s 32 cut) ≡ cut
    length_front = omega (arith, length-append (head_bytes s z directory) (part s 32 cut), length_head, length-part s 32 cut high)

    pub length_padded : length (head_bytes s z directory ++ part s 32 cut ++ replicate z 0) ≡ cut + z
    length_padded = omega (arith, length-append (head_bytes s z directory ++ part s 32 cut) (replicate z 0), length_front, length-replicate {A = ℕ} z 0)

    pub length_moved : length (moved_bytes s cut z directory) ≡ length s + z
    unfolding moved_bytes
    length_moved = omega (arith, length-append (head_bytes s z directory ++ part s 32 cut ++ replicate z 0) (drop cut s), length_padded, length-drop cut s)

    -- header, annotations, zero bytes and the rest
    pub moved_stored : (l l₁ l₂ l₃ l₄ : List ℕ) → l₁ ≡ sets l 0 (head_bytes s z directory) → l₂ ≡ sets l₁ 32 (take (cut - 32) (drop 32 s)) → l₃ ≡ sets l₂ cut (replicate z 0)
        → l₄ ≡ sets l₃ (cut + z) (take (length s - cut) (drop cut s)) → l₄ ≡ sets l 0 (moved_bytes s cut z directory)
    unfolding moved_bytes
    moved_stored l l₁ l₂ l₃ l₄ a b c d =
        let k : 32 + (cut - 32) ≡ cut = omega arith in
        let m : take (cut - 32) (drop 32 s) ≡ part s 32 cut = rw k at (lent_part s 32 (cut - 32) (omega arith)) in
        chain l (head_bytes s z directory ++ part s 32 cut ++ replicate z 0) (drop cut s) 0 (cut + z)
        (chain l (head_bytes s z directory ++ part s 32 cut) (replicate z 0) 0 cut
        (chain l (head_bytes s z directory) (part s 32 cut) 0 32 a (omega (arith, length_head)) (b ∙ ap (λ (v : List ℕ). sets l₁ 32 v) m))
        (omega (arith, length_front)) c)
        (omega (arith, length_padded)) (d ∙ ap (λ (v : List ℕ). sets l₃ (cut + z) v) (part_rest s cut))
