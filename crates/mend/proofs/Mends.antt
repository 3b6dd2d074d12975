-- What is left of a file, as one claim.
-- Assumes nothing.
use mathlib.Core.Path.{◌≡◌, refl, sym, ap, ◌∙◌, subst}
use mathlib.Core.Bool.{false}
use mathlib.Core.Logic.{inl, inr}
use mathlib.Core.List.{List, []}
use mathlib.Core.Option.{Option, none}
use Prim.Native.Nat.{ℕ, suc, ◌+◌, ◌*◌, ◌≤◌, ◌<◌}
use native.Mathlib.Omega.{arith}
use lib.ListN.{length, get_or}
use Rattle.number.specs.Choice.{◌<?◌}
use Rattle.number.proofs.Scans.{clash}
use Rattle.reading.specs.Got.{Got, got, bad, many}
use Rattle.reading.proofs.Facts.{Facts, fact, f_got, f_unless, f_next, f_read}
use Rattle.reading.proofs.Passes.{pass_next, pass_false}
use Rattle.reading.proofs.Rows.{many_at, many-length}
use Rattle.head.specs.declared.Header.{Header}
use Rattle.head.specs.Annotation.{Annotation}
use Rattle.directory.specs.Directory.{Row}
use Rattle.descriptor.specs.Descriptor.{Descriptor}
use Rattle.typelib.specs.Entry.{Entry, entry_key, entry_iid, entry_descriptor, no_entry, read_own, entries_of, keys_in, descriptor_in}
use Rattle.typelib.specs.Across.{above_in, first_repeated, first_circling}
use Rattle.typelib.specs.Typelib.{Front, front, Typelib, typelib, header_of, entries_in, pool_of, context_of, read_front, read_descriptors, read_behind, read_typelib}
use Rattle.typelib.proofs.OwnLaws.{own_size_lem}
use Rattle.rules.specs.Shows.{Bytes}
use Rattle.rules.specs.Rules.{NoCycle}
use Rattle.rules.proofs.Chains.{no_cycle}
use Rattle.rules.proofs.Whole.{across_Facts}
use Rattle.mend.specs.Left.{own_read, left_of, readable, on_cycle, left_at, left_in, Report, report_of, reports_of, Left, left, left_behind, behind_front, read_left}
use Rattle.mend.specs.Cleared.{clear_all, cleared}
use Rattle.mend.specs.Claim.{Mended, Mending, Mends}
use Rattle.mend.proofs.Spans.{span_is, present-none}
use Rattle.mend.proofs.Cycles.{found_returns, returns_found}
use Rattle.mend.proofs.Entries.{says, count, descriptor_at_lem, parents, left_off, left_key, left_iid, left_gone, length_left, left_at_lem, on_or_off}
use Rattle.mend.proofs.Accepts.{refused, cycled, fine, told, mended, length-mended, mended-Bytes, mended_accepted}

-- ---- what was read where something is left

pub record Way (s : List ℕ) (t : Typelib) (rs : List Report) (e : ℕ) : Type 0 where
  pub header : Header
  pub notes : List Annotation
  pub rows : List Row
  pub read : read_front s ≡ got (front header notes rows) e
  pub unique : (first_repeated (keys_in (readable header s rows)) header.count <? header.count) ≡ false
  pub is : t ≡ typelib header notes (left_in (readable header s rows))
  pub reports : rs ≡ reports_of header s (readable header s rows)

abbrev WayOf : List ℕ → Left → ℕ → Type 0
WayOf s (left t rs) e = Way s t rs e

left_Facts : (s : List ℕ) → Facts (WayOf s) (read_left s)
unfolding read_left behind_front left_behind
left_Facts s = f_next _ _ _ _ (f_read (λ f e. read_front s ≡ got f e) (read_front s) (λ f e q. q)) (λ f e q. go f e q)
  where
    go : (f : Front) (e : ℕ) → read_front s ≡ got f e → Facts (WayOf s) (behind_front s f e)
    go (front h notes rows) e q =
        f_unless _ _ _ _ _ (λ u. f_got (WayOf s) _ _ (record { header = h; notes = notes; rows = rows; read = q; unique = u; is = refl; reports = refl }))

pub left-Way : (s : List ℕ) (t : Typelib) (rs : List Report) (e : ℕ) → read_left s ≡ got (left t rs) e → Way s t rs e
left-Way s t rs e h = fact (WayOf s) _ (left_Facts s) h

pub way_left : (s : List ℕ) (h : Header) (notes : List Annotation) (rows : List Row) (e : ℕ) → read_front s ≡ got (front h notes rows) e
    → (first_repeated (keys_in (readable h s rows)) h.count <? h.count) ≡ false → read_left s ≡ got (left (typelib h notes (left_in (readable h s rows))) (reports_of h s (readable h s rows))) e
unfolding read_left behind_front left_behind
way_left s h notes rows e q u = pass_next _ _ q (pass_false _ _ _ u refl)

-- ---- the cleared file

cleared-mended : (s : List ℕ) (h : Header) (notes : List Annotation) (rows : List Row) (e : ℕ) (read : read_front s ≡ got (front h notes rows) e)
    → cleared s (reports_of h s (readable h s rows)) ≡ mended s h notes rows e read
unfolding cleared mended
cleared-mended s h notes rows e read = ap (λ (d : ℕ). clear_all d (reports_of h s (readable h s rows)) s) (sym (says s h notes rows e read).0.0.directory_at)

pub accepts : (s : List ℕ) (t : Typelib) (rs : List Report) (e : ℕ) → read_left s ≡ got (left t rs) e → read_typelib (cleared s rs) ≡ got t (length s)
accepts s t rs e g =
    let w = left-Way s t rs e g in
    let q = cleared-mended s w.header w.notes w.rows e w.read in
    let m = mended_accepted s w.header w.notes w.rows e w.read w.unique in
    let n = length-mended s w.header w.notes w.rows e w.read in
    ap (λ (r : List Report). read_typelib (cleared s r)) w.reports ∙ ap read_typelib q ∙ m ∙ (λ i. got (sym w.is i) (n i))

pub cleared-Bytes : (s : List ℕ) (t : Typelib) (rs : List Report) (e : ℕ) → read_left s ≡ got (left t rs) e → Bytes s → Bytes (cleared s rs)
cleared-Bytes s t rs e g b =
    let w = left-Way s t rs e g in
    let q = ap (cleared s) w.reports ∙ cleared-mended s w.header w.notes w.rows e w.read in
    subst Bytes (sym q) (mended-Bytes s w.header w.notes w.rows e w.read b)

-- ---- accepted files

pub record Whole (s : List ℕ) (t : Typelib) (e : ℕ) : Type 0 where
  pub header : Header
  pub notes : List Annotation
  pub rows : List Row
  pub read : read_front s ≡ got (front header notes rows) e
  pub owns : List (Option (Descriptor ℕ))
  pub end : ℕ
  pub own : many (read_own (context_of header) s (pool_of header s)) header.count header.directory ≡ got owns end
  pub unique : (first_repeated (keys_in (entries_of rows owns)) header.count <? header.count) ≡ false
  pub chains : (first_circling (above_in (entries_of rows owns)) header.count <? header.count) ≡ false
  pub is : t ≡ typelib header notes (entries_of rows owns)

Whole-Facts : (s : List ℕ) → Facts (Whole s) (read_typelib s)
unfolding read_typelib read_behind read_descriptors
Whole-Facts s = f_next _ _ _ _ (f_read (λ f e. read_front s ≡ got f e) (read_front s) (λ f e q. q)) (λ f e q. go f e q)
  where
    go : (f : Front) (e : ℕ) → read_front s ≡ got f e → Facts (Whole s) (read_behind s f e)
    go (front h notes rows) e q =
        f_next _ _ _ _ (f_read (λ ds d. many (read_own (context_of h) s (pool_of h s)) h.count h.directory ≡ got ds d) _ (λ ds d p. p)) (λ ds d p.
        f_next _ _ _ _ (across_Facts (keys_in (entries_of rows ds)) (above_in (entries_of rows ds)) h.count h.directory e) (λ _ b x.
        f_got (Whole s) _ _ (record { header = h; notes = notes; rows = rows; read = q ∙ ap (got (front h notes rows)) (sym x.2); owns = ds; end = d; own = p; unique = x.0; chains = x.1; is = refl })))

module _ (s : List ℕ) (t : Typelib) (e : ℕ) (w : Whole s t e) where
  readable_is : readable w.header s w.rows ≡ entries_of w.rows w.owns
  unfolding readable own_read left_of
  readable_is =
      ap (entries_of w.rows) (span_is none (λ k. left_of (own_read w.header s k)) w.owns w.header.count (many-length _ w.header.count w.header.directory w.own) (λ k l.
      ap left_of (own_got k l)))
    where
      own_got : (k : ℕ) → k < w.header.count → own_read w.header s k ≡ got (get_or w.owns k none) (w.header.directory + 28 * k + 28)
      own_got k l = many_at _ 28 (own_size_lem (context_of w.header) s (pool_of w.header s)) none w.header.count k w.header.directory l w.own

  -- no entry lies on a cycle
  off : (k : ℕ) → k < w.header.count → on_cycle (entries_of w.rows w.owns) k ≡ false
  unfolding on_cycle
  off k l = elim (on_or_off (entries_of w.rows w.owns) k) [
    | inr t ↦ t
    | inl t ↦
        let es = entries_of w.rows w.owns in
        let n : w.header.count ≡ length es = sym (ap length (sym readable_is) ∙ count s w.header w.notes w.rows e w.read) in
        let r = found_returns (above_in es) (length es) k t in
        let c : NoCycle es = no_cycle es w.header.count n w.chains in
        let z : k + 1 ≡ 0 = c k 0 (suc r.0) (omega arith) (omega arith) (sym r.1) in
        absurd (omega arith)
  ]

  left_is : left_in (entries_of w.rows w.owns) ≡ entries_of w.rows w.owns
  unfolding left_in
  left_is =
      let es = entries_of w.rows w.owns in
      span_is no_entry (left_at es) es (length es) refl (λ k l. left_off es k (off k (omega (arith, count s w.header w.notes w.rows e w.read, ap length readable_is))))

  none_told : (k : ℕ) → k < w.header.count → report_of w.header s (entries_of w.rows w.owns) k ≡ none
  unfolding own_read
  none_told k l = elim (told w.header s (entries_of w.rows w.owns) k) [
    | fine o x a b c ↦ c
    | cycled o x a b c ↦ clash (on_cycle (entries_of w.rows w.owns) k) b (off k l)
    | refused n q a b ↦
        let g = many_at _ 28 (own_size_lem (context_of w.header) s (pool_of w.header s)) none w.header.count k w.header.directory l w.own in
        absurd (let z : ◌≡◌ {A = Got (Option (Descriptor ℕ))} (bad n q) (got (get_or w.owns k none) (w.header.directory + 28 * k + 28)) = sym a ∙ g in let y : ◌≡◌ {A = ℕ} 0 1 = cc in omega arith)
  ]

  none_reported : reports_of w.header s (entries_of w.rows w.owns) ≡ []
  unfolding reports_of
  none_reported = present-none (report_of w.header s (entries_of w.rows w.owns)) w.header.count none_told

  accepted_left : read_left s ≡ got (left t []) e
  accepted_left =
      let es = entries_of w.rows w.owns in
      let u : (first_repeated (keys_in (readable w.header s w.rows)) w.header.count <? w.header.count) ≡ false = rw readable_is w.unique in
      way_left s w.header w.notes w.rows e w.read u
      ∙ ap (λ (x : List (Entry ℕ)). got (left (typelib w.header w.notes (left_in x)) (reports_of w.header s x)) e) readable_is
      ∙ (λ i. got (left (typelib w.header w.notes (left_is i)) (none_reported i)) e)
      ∙ ap (λ (x : Typelib). got (left x []) e) (sym w.is)

cleared_none : (s : List ℕ) → cleared s [] ≡ s
unfolding cleared clear_all
cleared_none s = refl

left_accepted : (s : List ℕ) (t : Typelib) (e : ℕ) → read_left s ≡ got (left t []) e → read_typelib s ≡ got t e
left_accepted s t e g =
    let w = left-Way s t [] e g in
    ap read_typelib (sym (cleared_none s)) ∙ accepts s t [] e g ∙ ap (got t) (sym (says s w.header w.notes w.rows e w.read).1)

-- ---- what changed

Mended-at : (h : Header) (notes : List Annotation) (es : List (Entry ℕ)) → ((j : ℕ) → j < length es → above_in es j ≤ length es) → (k : ℕ) → k < length es → Mended (typelib h notes (left_in es)) es k
unfolding entries_in keys_in descriptor_in on_cycle
Mended-at h notes es parents k l = record {
  key = ap entry_key (left_at_lem es k l) ∙ left_key es k;
  iid = ap entry_iid (left_at_lem es k l) ∙ left_iid es k;
  opened = λ r. ap entry_descriptor (left_at_lem es k l) ∙ left_gone es k (returns_found (above_in es) (length es) k l parents r);
  kept = λ f. elim (on_or_off es k) [
    | inl t ↦ absurd (f (found_returns (above_in es) (length es) k t))
    | inr t ↦ ap entry_descriptor (left_at_lem es k l ∙ left_off es k t)
  ];
}

module _ (s : List ℕ) (h : Header) (notes : List Annotation) (rows : List Row) (e : ℕ) (read : read_front s ≡ got (front h notes rows) e) where
  mending : Mending s (typelib h notes (left_in (readable h s rows))) (reports_of h s (readable h s rows))
  unfolding entries_in header_of
  mending = record {
    notes = notes;
    rows = rows;
    end = e;
    front_read = read;
    entries = readable h s rows;
    entries_read = refl;
    count = sym (length_left (readable h s rows));
    own = λ k l. descriptor_at_lem s h notes rows e read k (omega (arith, count s h notes rows e read));
    each = Mended-at h notes (readable h s rows) (parents s h notes rows e read);
    reports = refl;
  }

changed : (s : List ℕ) (t : Typelib) (rs : List Report) (e : ℕ) → read_left s ≡ got (left t rs) e → Mending s t rs
changed s t rs e g =
    let w = left-Way s t rs e g in
    subst (λ (x : Typelib). Mending s x rs) (sym w.is) (
    subst (Mending s (typelib w.header w.notes (left_in (readable w.header s w.rows)))) (sym w.reports) (
    mending s w.header w.notes w.rows e w.read))

pub mends : Mends
mends = record {
  accepted = λ s t e. (λ h. accepted_left s t e (fact (Whole s) _ (Whole-Facts s) h), left_accepted s t e);
  accepts = accepts;
  changed = changed;
}
