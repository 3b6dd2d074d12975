-- Header, annotations and directory of a file whose bytes agree with another's, but for descriptor pointers.
-- Assumes nothing.
use mathlib.Core.Path.{◌≡◌, refl, sym, ap, ◌∙◌}
use mathlib.Core.Bool.{false}
use mathlib.Core.Logic.{◌⊎◌, inl, inr}
use mathlib.Core.List.{List, [], ◌∷◌}
use Prim.Native.Nat.{ℕ, ◌+◌, ◌-◌, ◌≤◌, ◌<◌}
use native.Mathlib.Omega.{arith}
use lib.ListN.{length, get_or}
use lib.Seq.{ext_get_or}
use Rattle.number.specs.Number.{be}
use Rattle.number.specs.Part.{part}
use Rattle.number.proofs.Choice.{yes_eq}
use Rattle.number.proofs.Parts.{length-part, get_or-part}
use Rattle.reading.specs.Got.{got}
use Rattle.reading.proofs.Facts.{Facts, fact, f_got, f_unless, f_next, f_read}
use Rattle.reading.proofs.Passes.{pass_next, pass_true, pass_false}
use Rattle.head.specs.declared.Header.{Header}
use Rattle.head.specs.Annotation.{Annotation, empty, texts, annotation_limit}
use Rattle.head.specs.Says.{HeaderAt}
use Rattle.head.specs.Shows.{ShowsText, ShowsNote, ShowsNotes}
use Rattle.head.proofs.HeaderLaws.{limit_range}
use Rattle.head.proofs.HeadRules.{notes_up}
use Rattle.name.specs.Name.{follow, follow_space}
use Rattle.directory.specs.Directory.{Row, row, row_iid, row_key, out_of_order, lacks_iid, read_row}
use Rattle.mend.proofs.Bytes.{be_ext}

-- ---- annotations

module _ (s t : List ℕ) (limit : ℕ) (long : limit ≤ length s) (size : length t ≡ length s) (same : (i : ℕ) → i < limit → get_or t i 0 ≡ get_or s i 0) where
  text_same : (p : ℕ) (x : List ℕ) (e : ℕ) → ShowsText s p x e → e ≤ limit → ShowsText t p x e
  text_same p x e h l = record {
    size = rw (be_ext 2 t s p (λ i m. same (p + i) (omega (arith, h.ends)))) h.size;
    ends = h.ends;
    bytes =
        ext_get_or 0 (part t (p + 2) e) (part s (p + 2) e) (length-part t (p + 2) e (omega arith) ∙ sym (length-part s (p + 2) e (omega arith)))
        (λ i m. let b : p + 2 + i < e = omega (arith, length-part t (p + 2) e (omega arith)) in get_or-part t (p + 2) e i b ∙ same (p + 2 + i) (omega arith) ∙ sym (get_or-part s (p + 2) e i b))
        ∙ h.bytes;
  }

  note_same : (p : ℕ) (a : Annotation) (e : ℕ) → p < limit → ShowsNote ShowsText s p a e → e ≤ limit → ShowsNote ShowsText t p a e
  unfolding ShowsNote
  note_same p empty e u h l = rw (same p u) h
  note_same p (texts x y) e u (k, (m, a, b)) l = rw (same p u) (k, (m, text_same (p + 1) x m a (omega (arith, b.ends)), text_same m y e b l))

  pub notes_same : (p : ℕ) (notes : List Annotation) (e : ℕ) → ShowsNotes ShowsText s p notes e → e ≤ limit → ShowsNotes ShowsText t p notes e
  unfolding ShowsNotes
  notes_same p [] e h l = h
  notes_same p (a ∷ more) e (k, (m, u, v)) l =
      let b : m + length more ≤ e = notes_up s m more v in
      let g : p < limit = omega (arith, notes_up s p (a ∷ more) (k, (m, u, v))) in
      rw (same p g) (k, (m, note_same p a m g u (omega arith), notes_same m more e v l))

-- ---- the header

pub header_same : (s t : List ℕ) (h : Header) → HeaderAt s h → length t ≡ length s → ((i : ℕ) → i < annotation_limit h → get_or t i 0 ≡ get_or s i 0) → HeaderAt t h
header_same s t h a n same =
    let r = limit_range s h a in
    let one : (i : ℕ) → i < 32 → get_or t i 0 ≡ get_or s i 0 = λ i l. same i (omega arith) in
    let two : (k at : ℕ) → at + k ≤ 32 → be k t at ≡ be k s at = λ k at l. be_ext k t s at (λ i m. one (at + i) (omega arith)) in
    record {
      long = omega (arith, a.long);
      short = omega (arith, a.short);
      magic_at = λ i l. one i (omega arith) ∙ a.magic_at i l;
      major_at = one 16 (omega arith) ∙ a.major_at;
      minor_at = a.minor_at ∙ sym (one 17 (omega arith));
      count_at = a.count_at ∙ sym (two 2 18 (omega arith));
      length_at = two 4 20 (omega arith) ∙ a.length_at ∙ sym n;
      directory_at = a.directory_at ∙ sym (two 4 24 (omega arith));
      pool_at = a.pool_at ∙ sym (two 4 28 (omega arith));
      known = a.known;
      few = a.few;
      low = a.low;
      inside = omega (arith, a.inside);
      placed = a.placed;
      fits = a.fits;
    }

-- ---- a row

module _ (s t pool : List ℕ) (d p : ℕ) (before : be 16 t (p - 28) ≡ be 16 s (p - 28)) (iid : be 16 t p ≡ be 16 s p) (name : be 4 t (p + 16) ≡ be 4 s (p + 16))
    (space : be 4 t (p + 20) ≡ be 4 s (p + 20)) (pointer : (be 4 t (p + 24) ≡ 0) ⊎ (be 4 t (p + 24) ≡ be 4 s (p + 24))) where
  order_same : out_of_order t d p ≡ out_of_order s d p
  unfolding out_of_order
  order_same = rw (before, iid) refl

  lacks_no : lacks_iid (be 16 s p) (be 4 s (p + 24)) ≡ false → lacks_iid (be 16 t p) (be 4 t (p + 24)) ≡ false
  unfolding lacks_iid
  lacks_no h = elim pointer [
    | inl z ↦ pass_true _ _ _ (yes_eq _ 0 z) refl
    | inr e ↦ rw (iid, e) h
  ]

  row-Facts : Facts (λ r e. read_row t pool d p ≡ got (row (row_iid r) (row_key r) (be 4 t (p + 24))) (p + 28)) (read_row s pool d p)
  unfolding read_row row_iid row_key
  row-Facts =
      f_unless _ _ _ _ _ (λ a.
      f_next _ _ _ _ (f_read (λ w e. follow pool (p + 16) (be 4 s (p + 16)) ≡ got w e) _ (λ w e q. q)) (λ w e1 b.
      f_next _ _ _ _ (f_read (λ v e. follow_space pool (p + 20) (be 4 s (p + 20)) ≡ got v e) _ (λ v e q. q)) (λ v e2 c.
      f_unless _ _ _ _ _ (λ l. f_got _ _ _ (
      pass_false _ _ _ (order_same ∙ a) (
      pass_next _ _ (ap (follow pool (p + 16)) name ∙ b) (
      pass_next _ _ (ap (follow_space pool (p + 20)) space ∙ c) (
      pass_false _ _ _ (lacks_no l) (rw iid refl)))))))))

  pub row_same : {r : Row} {e : ℕ} → read_row s pool d p ≡ got r e → read_row t pool d p ≡ got (row (row_iid r) (row_key r) (be 4 t (p + 24))) (p + 28)
  row_same h = fact _ _ row-Facts h
