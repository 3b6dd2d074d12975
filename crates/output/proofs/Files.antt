-- A whole file: its pool, then its directory, then what stands before that, each where it belongs.
-- Assumes nothing.
use mathlib.Core.Path.{◌≡◌, sym, ap, ◌∙◌}
use mathlib.Core.Bool.{Bool}
use mathlib.Core.List.{List, ◌++◌, append_assoc}
use Prim.Native.Nat.{ℕ, ◌+◌, ◌-◌, ◌*◌, ◌≤◌}
use native.Mathlib.Omega.{arith}
use lib.ListN.{length, get_or, length-append, length-take, length-drop}
use lib.Seq.{sets}
use Rattle.number.specs.Choice.{when◌then◌else◌, ◌=?◌}
use Rattle.decimal.proofs.Stores.{follow}
use Rattle.key.specs.First.{Filled}
use Rattle.reader.specs.Values.{Entry}
use Rattle.meaning.specs.Normal.Minor.{minor_of}
use Rattle.meaning.specs.Normal.Normal.{normal_header, header_bytes, note_bytes}
use Rattle.iids.specs.Cells.{cell}
use Rattle.meaning.specs.Stock.Uses.{words_of, at_first, normal_length}
use Rattle.meaning.specs.Stock.Pool.{pieces_of, once_at}
use Rattle.meaning.specs.Stock.Form.{pool_with, directory_with, length_with, file_with, file_bytes}
use Rattle.meaning.proofs.Stock.Pools.{normal_length_lem}
use Rattle.meaning.proofs.Stock.Lengths.{length_directory}
use Rattle.meaning.proofs.Stock.Agrees.{file_ext}
use Rattle.writing.specs.Source.{renumber}
use Rattle.writing.proofs.Lent.{rest, back, lent, length-rest}
use Rattle.front.specs.Front.{directory_at, front_header, front_bytes}
use Rattle.front.proofs.Fields.{length_front}
use Rattle.output.specs.Stores.{place_of}
use Rattle.output.proofs.Areas.{sets_comm}

-- a part that is lent comes back as long as it was
pub lent_length : (l ys : List ℕ) (k : ℕ) → k ≤ length l → length ys ≡ length (rest l k) → length (back l k ys) ≡ length l
lent_length l ys k h e = simp (length-append, length-take, length-drop) (omega (arith, length-rest l k))

module _ (place places : List ℕ) (us : List (Entry ℕ)) (minor c size : ℕ) (count : c ≡ length us) (newest : minor ≡ minor_of us) (whole : size ≡ normal_length us) where
  abbrev kept : ℕ → Bool
  kept = at_first (words_of us)

  abbrev F : List ℕ
  F = front_bytes minor c size

  abbrev D : List ℕ
  D = directory_with (cell places) kept 0 1 us

  abbrev P : List ℕ
  P = pool_with (renumber place 0) (cell places) kept 0 (pieces_of us)

  front_is : F ≡ header_bytes (normal_header us) (length_with kept us) ++ note_bytes
  unfolding front_bytes front_header directory_at normal_header
  front_is =
      let z : size ≡ length_with kept us = whole ∙ sym (normal_length_lem us) in
      (λ i. header_bytes (record { minor = newest i; count = count i; directory = when count i =? 0 then 0 else 36; pool = 36 + 28 * count i }) (z i) ++ note_bytes)

  file_is : F ++ (D ++ P) ≡ file_with (renumber place 0) (cell places) kept us
  unfolding file_with
  file_is = sym (append_assoc F D P) ∙ ap (λ (y : List ℕ). y ++ D ++ P) front_is

  places_are : (r : ℕ) → renumber place 0 r ≡ place_of place r
  unfolding renumber place_of cell
  places_are r = let e : 0 + r - 1 ≡ r - 1 = omega arith in ap (λ (j : ℕ). get_or place j 0) e

  pub file_stored : (m : ℕ) → m ≡ length (words_of us) → Filled places m (once_at (pieces_of us)) → (l y₁ y₂ l₃ : List ℕ) → (at : ℕ) → at ≡ 36 + 28 * c → y₁ ≡ sets (rest l at) 0 P → y₂ ≡ sets (rest (back l at y₁) 36) 0 D → l₃ ≡ sets (back (back l at y₁) 36 y₂) 0 F
      → l₃ ≡ sets l 0 (file_bytes (place_of place) us)
  unfolding cell
  file_stored m u p l y₁ y₂ l₃ at z e f g =
      let n : length F ≡ 36 = length_front minor c size in
      let d : length D ≡ 28 * c = length_directory (cell places) kept 0 1 us ∙ ap (λ (j : ℕ). 28 * j) (sym count) in
      let a : back l at y₁ ≡ sets l at P = lent l y₁ P at e in
      let b : back (back l at y₁) 36 y₂ ≡ sets (sets l at P) 36 D = lent (back l at y₁) y₂ D 36 f ∙ ap (λ (y : List ℕ). sets y 36 D) a in
      g ∙ ap (λ (y : List ℕ). sets y 0 F) (b ∙ sym (sets_comm P D l 36 at (omega arith)) ∙ follow D P l 36 at (omega arith))
      ∙ sym (sets_comm (D ++ P) F l 0 36 (omega (arith, n)))
      ∙ follow F (D ++ P) l 0 36 (omega (arith, n))
      ∙ ap (sets l 0) (file_is ∙ file_ext (renumber place 0) (cell places) (once_at (pieces_of us)) kept us (λ k _ b. p.held k (omega arith)) ∙ (λ i. file_with (λ r. places_are r i) (once_at (pieces_of us)) kept us))
