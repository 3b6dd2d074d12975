-- What bytes show depends on these bytes alone: numbers, annotations and entries of two lists that are alike where they stand.
-- Assumes nothing.
use mathlib.Core.Path.{◌≡◌, refl, sym, ap, ◌∙◌}
use mathlib.Core.List.{List, [], ◌∷◌}
use Prim.Native.Nat.{ℕ, zero, suc, ◌+◌, ◌*◌, ◌≤◌, ◌<◌}
use native.Mathlib.Omega.{arith}
use native.Mathlib.Nat.{add-zero}
use lib.ListN.{length, get_or}
use lib.Seq.{ext_get_or}
use Rattle.number.specs.Limits.{entry_width}
use Rattle.number.specs.Number.{be}
use Rattle.number.specs.Part.{part}
use Rattle.number.proofs.Parts.{length-part, get_or-part}
use Rattle.head.proofs.HeadRules.{notes_up}
use Rattle.key.specs.Key.{key}
use Rattle.reader.specs.Values.{Annotation, empty, texts, Entry, entry, no_entry}
use Rattle.reader.specs.Records.{ShowsText, ShowsNote, ShowsNotes, ShowsEntry, ShowsEntries}

-- a number is told by its bytes
pub be_same : (k : ℕ) (s b : List ℕ) (p q : ℕ) → ((j : ℕ) → j < k → get_or b (q + j) 0 ≡ get_or s (p + j) 0) → be k b q ≡ be k s p
unfolding be
be_same zero s b p q f = refl
be_same (suc k) s b p q f =
    let ih : be k b q ≡ be k s p = be_same k s b p q (λ j l. f j (omega arith)) in
    let e : get_or b (q + k) 0 ≡ get_or s (p + k) 0 = f k (omega arith) in
    (λ i. ih i * 256 + e i)

-- ---- annotations

-- the same bytes from lo on, before hi
pub record Alike (s b : List ℕ) (lo hi : ℕ) : Type 0 where
  pub one : hi ≤ length s
  pub other : hi ≤ length b
  pub same : (i : ℕ) → lo ≤ i → i < hi → get_or b i 0 ≡ get_or s i 0

pub Alike-back : (s b : List ℕ) (lo hi : ℕ) → Alike s b lo hi → Alike b s lo hi
Alike-back s b lo hi a = record { one = a.other; other = a.one; same = λ i l k. sym (a.same i l k) }

note_up : (s : List ℕ) (p : ℕ) (a : Annotation) (e : ℕ) → ShowsNote ShowsText s p a e → p < e
unfolding ShowsNote
note_up s p empty e h = omega arith
note_up s p (texts x y) e (t, (m, u, v)) = omega (arith, u.ends, v.ends)

module _ (s b : List ℕ) (lo hi : ℕ) (a : Alike s b lo hi) where
  text_alike : (p : ℕ) (x : List ℕ) (e : ℕ) → lo ≤ p → e ≤ hi → ShowsText s p x e → ShowsText b p x e
  text_alike p x e l k t =
      let n : e ≡ p + 2 + length x = t.ends in
      let w : be 2 b p ≡ be 2 s p = be_same 2 s b p p (λ j m. a.same (p + j) (omega arith) (omega arith)) in
      let one = length-part s (p + 2) e (omega (arith, a.one)) in
      let other = length-part b (p + 2) e (omega (arith, a.other)) in
      record {
        size = rw w t.size;
        ends = n;
        bytes = ext_get_or 0 (part b (p + 2) e) (part s (p + 2) e) (omega arith) (λ i m.
            get_or-part b (p + 2) e i (omega arith) ∙ a.same (p + 2 + i) (omega arith) (omega arith) ∙ sym (get_or-part s (p + 2) e i (omega arith))) ∙ t.bytes;
      }

  note_alike : (p : ℕ) (x : Annotation) (e : ℕ) → lo ≤ p → e ≤ hi → ShowsNote ShowsText s p x e → ShowsNote ShowsText b p x e
  unfolding ShowsNote
  note_alike p empty e l k h = (rw (a.same p l (omega arith)) h.0, h.1)
  note_alike p (texts x y) e l k (t, (m, u, v)) = (
    rw (a.same p l (omega (arith, u.ends, v.ends))) t,
    (m, text_alike (p + 1) x m (omega arith) (omega (arith, v.ends)) u, text_alike m y e (omega (arith, u.ends)) k v),
  )

  pub notes_alike : (p : ℕ) (notes : List Annotation) (e : ℕ) → lo ≤ p → e ≤ hi → ShowsNotes ShowsText s p notes e → ShowsNotes ShowsText b p notes e
  unfolding ShowsNotes
  notes_alike p [] e l k h = h
  notes_alike p (x ∷ more) e l k (t, (m, u, v)) =
      let up = note_up s p x m u in
      let more_up = notes_up s m more v in
      (rw (a.same p l (omega arith)) t, (m, note_alike p x m l (omega arith) u, notes_alike m more e (omega arith) k v))

-- ---- entries

-- n entries of s at d stand in b at q
pub record Stands (s b : List ℕ) (d q n : ℕ) : Type 0 where
  pub same : (i : ℕ) → i < entry_width * n → get_or b (q + i) 0 ≡ get_or s (d + i) 0

pub Stands-back : (s b : List ℕ) (d q n : ℕ) → Stands s b d q n → Stands b s q d n
Stands-back s b d q n a = record { same = λ i l. sym (a.same i l) }

module _ (s b pool : List ℕ) (d q n : ℕ) (a : Stands s b d q n) where
  -- a field of the entry k
  field_same : (w k off : ℕ) → k < n → off + w ≤ 28 → be w b (q + 28 * k + off) ≡ be w s (d + 28 * k + off)
  field_same w k off l m = be_same w s b (d + 28 * k + off) (q + 28 * k + off) (λ j h.
      let x : q + 28 * k + off + j ≡ q + (28 * k + off + j) = omega arith in
      let y : d + (28 * k + off + j) ≡ d + 28 * k + off + j = omega arith in
      ap (λ (i : ℕ). get_or b i 0) x ∙ a.same (28 * k + off + j) (omega arith) ∙ ap (λ (i : ℕ). get_or s i 0) y)

  entry_same : (k : ℕ) → k < n → (x : Entry ℕ) → ShowsEntry s pool (d + 28 * k) x → ShowsEntry b pool (q + 28 * k) x
  entry_same k l (entry (key v w) i own) h =
      let z : be 16 b (q + 28 * k) ≡ be 16 s (d + 28 * k) = rw (← add-zero (q + 28 * k), ← add-zero (d + 28 * k)) (field_same 16 k 0 l (omega arith)) in (
        z ∙ h.0,
        rw (field_same 4 k 16 l (omega arith)) h.1,
        rw (field_same 4 k 20 l (omega arith)) h.2,
        rw (field_same 4 k 24 l (omega arith)) h.3,
      )

  pub entries_same : (es : List (Entry ℕ)) → ShowsEntries s pool d n es → ShowsEntries b pool q n es
  entries_same es h = record { count = h.count; each = λ k l. entry_same k l (get_or es k no_entry) (h.each k l) }
