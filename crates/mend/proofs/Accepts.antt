-- The file with the reported descriptor pointers cleared is accepted, with what is left as its value.
-- Assumes nothing.
use mathlib.Core.Path.{◌≡◌, refl, sym, ap, ◌∙◌}
use mathlib.Core.Bool.{Bool, true, false}
use mathlib.Core.Logic.{◌⊎◌, inl, inr}
use mathlib.Core.List.{List}
use mathlib.Core.Option.{Option, none, some}
use Prim.Native.Nat.{ℕ, ◌+◌, ◌-◌, ◌*◌, ◌≤◌, ◌<◌}
use native.Mathlib.Omega.{arith}
use native.Mathlib.Decide.{dec_le}
use lib.ListN.{length, get_or, drop, length-drop}
use lib.Seq.{ext_get_or, get_or-drop}
use Rattle.number.specs.Choice.{when◌then◌else◌, ◌<?◌}
use Rattle.number.specs.Number.{be}
use Rattle.number.proofs.Choice.{yes_eq, not_eq}
use Rattle.reading.specs.Got.{Got, got, bad, many}
use Rattle.reading.specs.declared.Context.{Context}
use Rattle.reading.proofs.Passes.{pass_next, pass_true, pass_false}
use Rattle.head.specs.declared.Header.{Header}
use Rattle.head.specs.Annotation.{Annotation, annotation_limit}
use Rattle.head.specs.Says.{HeaderAt}
use Rattle.head.proofs.HeaderLaws.{limit_range}
use Rattle.head.proofs.HeadRules.{header_reads, notes_read}
use Rattle.directory.specs.Directory.{Row, row, no_row, row_iid, row_key, read_directory}
use Rattle.directory.proofs.DirectoryLaws.{row_at_lem}
use Rattle.descriptor.specs.Descriptor.{Descriptor}
use Rattle.typelib.specs.Entry.{Entry, entry_descriptor, read_own, entries_of, keys_in, descriptor_in}
use Rattle.typelib.specs.Across.{first_repeated, read_across}
use Rattle.typelib.specs.Typelib.{front, typelib, pool_of, context_of, read_listed, read_front, read_descriptors, read_behind, read_typelib}
use Rattle.typelib.proofs.EntryLaws.{entry_with}
use Rattle.typelib.proofs.OwnLaws.{own_size_lem}
use Rattle.rules.specs.Shows.{Bytes}
use Rattle.rules.proofs.Keys.{unique_keys, keys_unique}
use Rattle.rules.proofs.Chains.{cycle_no}
use Rattle.bridge.specs.Span.{span}
use Rattle.mend.specs.Left.{own_read, left_of, readable, on_cycle, left_at, left_in, Report, report, index_of, fault_of, report_of, reports_of}
use Rattle.mend.specs.Cleared.{clear_all}
use Rattle.bridge.proofs.Spans.{span_ext}
use Rattle.mend.proofs.Spans.{many-span, entries_span}
use Rattle.mend.proofs.Bytes.{Indexed, clear_to, length_cleared, kept, number_kept, pointer_kept, pointer_gone, Bytes-cleared}
use Rattle.mend.proofs.Fronts.{notes_same, header_same, row_same}
use Rattle.mend.proofs.Entries.{says, count, key_at_lem, iid_at_lem, descriptor_at_lem, parents, entry_is, left_off, left_key, left_iid, left_gone, left_none, length_left, none_returns, above_below, keys_left}

-- ---- what is reported

-- of an entry: a report, and its descriptor is not there any more; or nothing, its descriptor being fine and on no cycle
pub data Told (h : Header) (s : List ℕ) (es : List (Entry ℕ)) (k : ℕ) : Type 0 where
  refused : (n q : ℕ) → own_read h s k ≡ bad n q → report_of h s es k ≡ some (report (k + 1) n q) → Told h s es k
  cycled : (o : Option (Descriptor ℕ)) (e : ℕ) → own_read h s k ≡ got o e → on_cycle es k ≡ true → report_of h s es k ≡ some (report (k + 1) 19 (h.directory + 28 * k)) → Told h s es k
  fine : (o : Option (Descriptor ℕ)) (e : ℕ) → own_read h s k ≡ got o e → on_cycle es k ≡ false → report_of h s es k ≡ none → Told h s es k

pub told : (h : Header) (s : List ℕ) (es : List (Entry ℕ)) (k : ℕ) → Told h s es k
unfolding report_of fault_of when◌then◌else◌
told h s es k = go (own_read h s k) (on_cycle es k) refl refl
  where
    go : (g : Got (Option (Descriptor ℕ))) (t : Bool) → own_read h s k ≡ g → on_cycle es k ≡ t → Told h s es k
    go (bad n q) t a b = refused n q a (rw a refl)
    go (got o e) true a b = cycled o e a b (rw (a, b) refl)
    go (got o e) false a b = fine o e a b (rw (a, b) refl)

pub indexed : (h : Header) (s : List ℕ) (es : List (Entry ℕ)) → Indexed (report_of h s es)
indexed h s es = record { own = λ k r e. go k r e (told h s es k) }
  where
    same : (r u : Report) → some r ≡ some u → index_of r ≡ index_of u
    same r u e = cc

    go : (k : ℕ) (r : Report) → report_of h s es k ≡ some r → Told h s es k → index_of r ≡ k + 1
    go k r e (refused n q a b) = same r (report (k + 1) n q) (sym e ∙ b) ∙ (unfold index_of in refl)
    go k r e (cycled o x a b c) = same r (report (k + 1) 19 (h.directory + 28 * k)) (sym e ∙ c) ∙ (unfold index_of in refl)
    go k r e (fine o x a b c) = absurd (let z : ◌≡◌ {A = Option Report} (some r) none = sym e ∙ c in let w : ◌≡◌ {A = ℕ} 0 1 = cc in omega arith)

own_agree : (c : Context) (s t pool : List ℕ) (p : ℕ) → be 4 t (p + 24) ≡ be 4 s (p + 24) → read_own c t pool p ≡ read_own c s pool p
unfolding read_own
own_agree c s t pool p q = rw q refl

pub own_none : (c : Context) (s pool : List ℕ) (p : ℕ) → be 4 s (p + 24) ≡ 0 → read_own c s pool p ≡ got none (p + 28)
unfolding read_own
own_none c s pool p z = pass_true _ _ _ (yes_eq _ 0 z) refl

limit_at_lem : (h : Header) → 0 < h.count → annotation_limit h ≡ h.directory
unfolding annotation_limit
limit_at_lem h l = pass_false _ _ _ (not_eq _ 0 (λ z. omega arith)) refl

-- ---- the cleared file

module _ (s : List ℕ) (h : Header) (notes : List Annotation) (rows : List Row) (e : ℕ) (read : read_front s ≡ got (front h notes rows) e) where
  -- its bytes
  unfoldable pub mended : List ℕ
  mended = clear_all h.directory (reports_of h s (readable h s rows)) s

  mended_is : mended ≡ clear_to h.directory s (report_of h s (readable h s rows)) (indexed h s (readable h s rows)) h.count
  unfolding mended clear_to reports_of
  mended_is = refl

  header : HeaderAt s h
  header = (says s h notes rows e read).0.0

  fits : h.directory + 28 * h.count ≤ length s
  fits = omega (arith, header.fits, header.inside)

  pub length-mended : length mended ≡ length s
  length-mended = ap length mended_is ∙ length_cleared h.directory s _ (indexed h s (readable h s rows)) h.count

  pub mended-Bytes : Bytes s → Bytes mended
  mended-Bytes b = rw mended_is (Bytes-cleared h.directory s _ (indexed h s (readable h s rows)) h.count b)

  stays : (x : ℕ) → ((k : ℕ) → k < h.count → (x < h.directory + 28 * k + 24) ⊎ (h.directory + 28 * k + 28 ≤ x)) → get_or mended x 0 ≡ get_or s x 0
  stays x a = ap (λ (t : List ℕ). get_or t x 0) mended_is ∙ kept h.directory s _ (indexed h s (readable h s rows)) h.count x a

  number_stays : (w at : ℕ) → ((i : ℕ) → i < w → (k : ℕ) → k < h.count → (at + i < h.directory + 28 * k + 24) ⊎ (h.directory + 28 * k + 28 ≤ at + i)) → be w mended at ≡ be w s at
  number_stays w at a = ap (λ (t : List ℕ). be w t at) mended_is ∙ number_kept h.directory s _ (indexed h s (readable h s rows)) h.count w at a

  agrees : (i : ℕ) → i < annotation_limit h → get_or mended i 0 ≡ get_or s i 0
  agrees i l = stays i (λ k m. inl (let q = limit_at_lem h (omega arith) in omega arith))

  pub pool_stays : pool_of h mended ≡ pool_of h s
  unfolding pool_of
  pool_stays =
      ext_get_or 0 (drop h.pool mended) (drop h.pool s) (length-drop h.pool mended ∙ ap (λ (n : ℕ). n - h.pool) length-mended ∙ sym (length-drop h.pool s)) (λ i l.
      get_or-drop h.pool mended i 0 ∙ stays (h.pool + i) (λ k m. inr (omega (arith, header.fits))) ∙ sym (get_or-drop h.pool s i 0))

  pub header_mended : HeaderAt mended h
  header_mended = header_same s mended h header length-mended agrees

  -- the fields of entry k before its descriptor pointer
  field_stays : (k j w : ℕ) → j + w ≤ 24 → be w mended (h.directory + 28 * k + j) ≡ be w s (h.directory + 28 * k + j)
  field_stays k j w l = number_stays w (h.directory + 28 * k + j) (λ i m x y. elim (dec_le k x) [ yes a ↦ inl (omega arith) | no a ↦ inr (omega arith) ])

  iid_stays : (k : ℕ) → be 16 mended (h.directory + 28 * k) ≡ be 16 s (h.directory + 28 * k)
  iid_stays k = number_stays 16 (h.directory + 28 * k) (λ i m x y. elim (dec_le k x) [ yes a ↦ inl (omega arith) | no a ↦ inr (omega arith) ])

  before_stays : (k : ℕ) → be 16 mended (h.directory + 28 * k - 28) ≡ be 16 s (h.directory + 28 * k - 28)
  before_stays k = number_stays 16 (h.directory + 28 * k - 28) (λ i m x y. elim (dec_le k (x + 1)) [ yes a ↦ inl (omega arith) | no a ↦ inr (omega arith) ])

  pointer_stays : (k : ℕ) → k < h.count → report_of h s (readable h s rows) k ≡ none → be 4 mended (h.directory + 28 * k + 24) ≡ be 4 s (h.directory + 28 * k + 24)
  pointer_stays k l q = ap (λ (t : List ℕ). be 4 t (h.directory + 28 * k + 24)) mended_is ∙ pointer_kept h.directory s _ (indexed h s (readable h s rows)) h.count fits h.count k l q

  pointer_cleared : (k : ℕ) (r : Report) → k < h.count → report_of h s (readable h s rows) k ≡ some r → be 4 mended (h.directory + 28 * k + 24) ≡ 0
  pointer_cleared k r l q = ap (λ (t : List ℕ). be 4 t (h.directory + 28 * k + 24)) mended_is ∙ pointer_gone h.directory s _ (indexed h s (readable h s rows)) h.count fits h.count k r (omega arith) l q

  pointer_either : (k : ℕ) → k < h.count → (be 4 mended (h.directory + 28 * k + 24) ≡ 0) ⊎ (be 4 mended (h.directory + 28 * k + 24) ≡ be 4 s (h.directory + 28 * k + 24))
  pointer_either k l = elim (told h s (readable h s rows) k) [
    | refused n q a b ↦ inl (pointer_cleared k _ l b)
    | cycled o x a b c ↦ inl (pointer_cleared k _ l c)
    | fine o x a b c ↦ inr (pointer_stays k l c)
  ]

  -- ---- the directory

  row_at : ℕ → Row
  row_at k = row (row_iid (get_or rows k no_row)) (row_key (get_or rows k no_row)) (be 4 mended (h.directory + 28 * k + 24))

  own_at : ℕ → Option (Descriptor ℕ)
  own_at k = entry_descriptor (left_at (readable h s rows) k)

  rows_mended : read_directory mended (pool_of h s) h.count h.directory ≡ got (span row_at h.count) (h.directory + 28 * h.count)
  unfolding read_directory row_at
  rows_mended = many-span _ 28 h.count h.directory row_at (λ k l.
      row_same s mended (pool_of h s) h.directory (h.directory + 28 * k) (before_stays k) (iid_stays k) (field_stays k 16 4 (omega arith)) (field_stays k 20 4 (omega arith)) (pointer_either k l)
      (row_at_lem s (pool_of h s) h.count h.directory (says s h notes rows e read).0.3.1 k l))

  own_mended : (k : ℕ) → k < h.count → read_own (context_of h) mended (pool_of h s) (h.directory + 28 * k) ≡ got (own_at k) (h.directory + 28 * k + 28)
  unfolding own_at own_read left_of descriptor_in
  own_mended k l = elim (told h s (readable h s rows) k) [
    | refused n q a b ↦
        own_none _ _ _ _ (pointer_cleared k _ l b)
        ∙ ap (λ (o : Option (Descriptor ℕ)). got o (h.directory + 28 * k + 28)) (sym (left_none (readable h s rows) k (descriptor_at_lem s h notes rows e read k l ∙ ap left_of a)))
    | cycled o x a b c ↦
        own_none _ _ _ _ (pointer_cleared k _ l c) ∙ ap (λ (o : Option (Descriptor ℕ)). got o (h.directory + 28 * k + 28)) (sym (left_gone (readable h s rows) k b))
    | fine o x a b c ↦
        own_agree _ s mended _ _ (pointer_stays k l c) ∙ a
        ∙ (λ i. got (sym (ap entry_descriptor (left_off (readable h s rows) k b) ∙ descriptor_at_lem s h notes rows e read k l ∙ ap left_of a) i) (own_size_lem (context_of h) s (pool_of h s) (h.directory + 28 * k) o x a i))
  ]

  directory_mended : read_directory mended (pool_of h mended) h.count h.directory ≡ got (span row_at h.count) (h.directory + 28 * h.count)
  directory_mended = rw pool_stays rows_mended

  owns_mended : many (read_own (context_of h) mended (pool_of h mended)) h.count h.directory ≡ got (span own_at h.count) (h.directory + 28 * h.count)
  owns_mended = rw pool_stays (many-span _ 28 h.count h.directory own_at own_mended)

  entries_mended : entries_of (span row_at h.count) (span own_at h.count) ≡ left_in (readable h s rows)
  unfolding left_in row_at own_at
  entries_mended =
      entries_span row_at own_at h.count
      ∙ span_ext (λ k. entry_with (row_at k) (own_at k)) (left_at (readable h s rows)) h.count (λ k l.
      entry_is (left_at (readable h s rows) k) (get_or rows k no_row) _ (left_key (readable h s rows) k ∙ key_at_lem s h notes rows e read k l) (left_iid (readable h s rows) k ∙ iid_at_lem s h notes rows e read k l))
      ∙ ap (span (left_at (readable h s rows))) (sym (count s h notes rows e read))

  -- ---- the whole

  pub mended_accepted : (first_repeated (keys_in (readable h s rows)) h.count <? h.count) ≡ false → read_typelib mended ≡ got (typelib h notes (left_in (readable h s rows))) (length mended)
  unfolding read_typelib read_front read_listed read_behind read_descriptors read_across
  mended_accepted unique =
      let a = (says s h notes rows e read).0 in
      let es = readable h s rows in
      let n : h.count ≡ length (left_in es) = sym (length_left es ∙ count s h notes rows e read) in
      let limit = (limit_range s h header).2 in
      pass_next _ _ (
      pass_next _ _ (header_reads mended h header_mended) (
      pass_next _ _ (notes_read (annotation_limit h) mended (omega (arith, length-mended)) (notes_same s mended (annotation_limit h) limit length-mended agrees 32 notes a.1.0 a.1.1 a.1.2) a.2 a.1.2) (
      pass_next _ _ directory_mended refl))) (
      pass_next _ _ owns_mended (rw entries_mended (
      pass_next _ _ (
      pass_false _ _ _ (keys_unique (left_in es) h.count n (keys_left es (unique_keys es h.count (sym (count s h notes rows e read)) unique))) (
      pass_false _ _ _ (cycle_no (left_in es) h.count n (above_below es (parents s h notes rows e read)) (none_returns es (parents s h notes rows e read))) refl)) refl)))
