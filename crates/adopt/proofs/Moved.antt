-- The bytes of a moved file: which are those of the file, and what the fields say.
-- Assumes nothing.
use mathlib.Core.Path.{◌≡◌, sym, ap, ◌∙◌}
use mathlib.Core.List.{List, ◌++◌}
use Prim.Native.Nat.{ℕ, zero, suc, ◌+◌, ◌-◌, ◌≤◌, ◌<◌}
use native.Mathlib.Omega.{arith}
use native.Mathlib.Decide.{dec_le}
use lib.ListN.{length, get_or, take, drop, replicate, get_or-replicate, length-replicate}
use lib.Seq.{get_or-take, get_or-drop, get_or-append-add, drop-append-add, drop-drop, length-take-le}
use Rattle.number.specs.Limits.{file_limit}
use Rattle.number.specs.Number.{be}
use Rattle.number.specs.Part.{part}
use Rattle.number.proofs.Parts.{length-part, get_or-part}
use Rattle.meaning.specs.Normal.BigEndian.{bytes_of}
use Rattle.meaning.proofs.Normal.Lengths.{length_bytes}
use Rattle.meaning.proofs.Normal.From.{From, From-whole, From-at, From-left, From-right, From-number}
use Rattle.adopt.specs.Adopt.{head_bytes, moved_bytes}
use Rattle.adopt.specs.Theorems.{Bytewise}
use Rattle.adopt.proofs.Stored.{length_one, length_two, length_head, length_front, length_padded, length_moved}

module _ (s : List ℕ) (cut z d : ℕ) (long : 32 ≤ length s) (low : 32 ≤ cut) (high : cut ≤ length s) where
  -- ---- where each run of bytes stands

  padded : From (moved_bytes s cut z d) 0 (head_bytes s z d ++ part s 32 cut ++ replicate z 0)
  unfolding moved_bytes
  padded = From-left _ 0 (head_bytes s z d ++ part s 32 cut ++ replicate z 0) (drop cut s) (From-whole (moved_bytes s cut z d))

  zeros_at : From (moved_bytes s cut z d) cut (replicate z 0)
  zeros_at =
      From-at _ _ cut (replicate z 0) (omega (arith, length_front s z d long cut low high))
      (From-right _ 0 (head_bytes s z d ++ part s 32 cut) (replicate z 0) padded)

  front_at : From (moved_bytes s cut z d) 0 (head_bytes s z d ++ part s 32 cut)
  front_at = From-left _ 0 (head_bytes s z d ++ part s 32 cut) (replicate z 0) padded

  part_at : From (moved_bytes s cut z d) 32 (part s 32 cut)
  part_at =
      From-at _ _ 32 (part s 32 cut) (omega (arith, length_head s z d long))
      (From-right _ 0 (head_bytes s z d) (part s 32 cut) front_at)

  head_at_lem : From (moved_bytes s cut z d) 0 (head_bytes s z d)
  head_at_lem = From-left _ 0 (head_bytes s z d) (part s 32 cut) front_at

  pool_at_lem : From (moved_bytes s cut z d) 28 (bytes_of 4 (be 4 s 28 + z))
  unfolding head_bytes
  pool_at_lem =
      From-at _ _ 28 (bytes_of 4 (be 4 s 28 + z)) (omega (arith, length_two s z d long))
      (From-right _ 0 (take 20 s ++ bytes_of 4 (length s + z) ++ bytes_of 4 d) (bytes_of 4 (be 4 s 28 + z)) head_at_lem)

  two_at : From (moved_bytes s cut z d) 0 (take 20 s ++ bytes_of 4 (length s + z) ++ bytes_of 4 d)
  unfolding head_bytes
  two_at = From-left _ 0 (take 20 s ++ bytes_of 4 (length s + z) ++ bytes_of 4 d) (bytes_of 4 (be 4 s 28 + z)) head_at_lem

  directory_at_lem : From (moved_bytes s cut z d) 24 (bytes_of 4 d)
  directory_at_lem =
      From-at _ _ 24 (bytes_of 4 d) (omega (arith, length_one s z d long))
      (From-right _ 0 (take 20 s ++ bytes_of 4 (length s + z)) (bytes_of 4 d) two_at)

  one_at : From (moved_bytes s cut z d) 0 (take 20 s ++ bytes_of 4 (length s + z))
  one_at = From-left _ 0 (take 20 s ++ bytes_of 4 (length s + z)) (bytes_of 4 d) two_at

  length_at : From (moved_bytes s cut z d) 20 (bytes_of 4 (length s + z))
  length_at =
      From-at _ _ 20 (bytes_of 4 (length s + z)) (omega (arith, length-take-le 20 s (omega arith)))
      (From-right _ 0 (take 20 s) (bytes_of 4 (length s + z)) one_at)

  first_at : From (moved_bytes s cut z d) 0 (take 20 s)
  first_at = From-left _ 0 (take 20 s) (bytes_of 4 (length s + z)) one_at

  -- ---- the fields

  module _ (short : length s + z ≤ file_limit) (inside : be 4 s 28 ≤ length s) where
    size_says : be 4 (moved_bytes s cut z d) 20 ≡ length s + z
    size_says = From-number _ 4 20 (length s + z) (omega arith) length_at

    pub directory_says : d ≤ file_limit → be 4 (moved_bytes s cut z d) 24 ≡ d
    directory_says l = From-number _ 4 24 d (omega arith) directory_at_lem

    pool_says : be 4 (moved_bytes s cut z d) 28 ≡ be 4 s 28 + z
    pool_says = From-number _ 4 28 (be 4 s 28 + z) (omega arith) pool_at_lem

    -- ---- every byte

    pub bytewise : be 4 s 20 ≡ length s → z ≤ 3 → Bytewise s (moved_bytes s cut z d) cut z
    unfolding moved_bytes
    bytewise e few = record {
      few = few;
      longer = length_moved s z d long cut low high;
      size = size_says ∙ ap (λ (n : ℕ). n + z) (sym e);
      pool = pool_says;
      head = λ i l.
          let x : i ≡ 0 + i = omega arith in
          ap (λ (j : ℕ). get_or (moved_bytes s cut z d) j 0) x ∙ first_at.same i (omega (arith, length-take-le 20 s (omega arith))) ∙ get_or-take 20 s i 0 l;
      before = λ i l k.
          let x : i ≡ 32 + (i - 32) = omega arith in
          ap (λ (j : ℕ). get_or (moved_bytes s cut z d) j 0) x
          ∙ part_at.same (i - 32) (omega (arith, length-part s 32 cut high))
          ∙ get_or-part s 32 cut (i - 32) (omega arith)
          ∙ ap (λ (j : ℕ). get_or s j 0) (sym x);
      zeros = λ i l k.
          let x : i ≡ cut + (i - cut) = omega arith in
          ap (λ (j : ℕ). get_or (moved_bytes s cut z d) j 0) x
          ∙ zeros_at.same (i - cut) (omega (arith, length-replicate {A = ℕ} z 0))
          ∙ get_or-replicate z (i - cut) 0 0 (omega arith);
      behind = λ i l.
          let front : List ℕ = head_bytes s z d ++ part s 32 cut ++ replicate z 0 in
          let x : i + z ≡ length front + (i - cut) = omega (arith, length_padded s z d long cut low high) in
          let y : cut + (i - cut) ≡ i = omega arith in
          ap (λ (j : ℕ). get_or (moved_bytes s cut z d) j 0) x
          ∙ get_or-append-add front (drop cut s) (i - cut) 0
          ∙ get_or-drop cut s (i - cut) 0
          ∙ ap (λ (j : ℕ). get_or s j 0) y;
    }

  -- ---- and it is a byte

  field_small : (v j : ℕ) → j < 4 → get_or (bytes_of 4 v) j 0 < 256
  unfolding bytes_of
  field_small v zero l = omega arith
  field_small v (suc zero) l = omega arith
  field_small v (suc (suc zero)) l = omega arith
  field_small v (suc (suc (suc zero))) l = omega arith
  field_small v (suc (suc (suc (suc j)))) l = absurd (omega arith)

  -- that of the field at p
  field_byte : (p v : ℕ) → From (moved_bytes s cut z d) p (bytes_of 4 v) → (i : ℕ) → p ≤ i → i < p + 4 → get_or (moved_bytes s cut z d) i 0 < 256
  field_byte p v f i l k =
      let x : p + (i - p) ≡ i = omega arith in
      let m = field_small v (i - p) (omega arith) in
      let e : get_or (moved_bytes s cut z d) i 0 ≡ get_or (bytes_of 4 v) (i - p) 0 = ap (λ (j : ℕ). get_or (moved_bytes s cut z d) j 0) (sym x) ∙ f.same (i - p) (omega (arith, length_bytes 4 v)) in
      omega arith

  pub fields_small : (i : ℕ) → 20 ≤ i → i < 32 → get_or (moved_bytes s cut z d) i 0 < 256
  fields_small i l k = elim (dec_le 24 i) [
    | no a ↦ field_byte 20 (length s + z) length_at i l (omega arith)
    | yes a ↦ elim (dec_le 28 i) [
      | no b ↦ field_byte 24 d directory_at_lem i a (omega arith)
      | yes b ↦ field_byte 28 (be 4 s 28 + z) pool_at_lem i b k
    ]
  ]

  -- what stands from p on, after the cut, stands z further on
  pub moved_drop : (p : ℕ) → cut ≤ p → drop (p + z) (moved_bytes s cut z d) ≡ drop p s
  unfolding moved_bytes
  moved_drop p l =
      let front : List ℕ = head_bytes s z d ++ part s 32 cut ++ replicate z 0 in
      let x : p + z ≡ length front + (p - cut) = omega (arith, length_padded s z d long cut low high) in
      let y : cut + (p - cut) ≡ p = omega arith in
      ap (λ (j : ℕ). drop j (front ++ drop cut s)) x
      ∙ drop-append-add front (drop cut s) (p - cut)
      ∙ drop-drop (p - cut) cut s
      ∙ ap (λ (j : ℕ). drop j s) y
