-- What the tables of a judged file tell, as its cleared copy and its three lists.
-- Assumes nothing.
use Rattle.std.specs.Prelude.{Err, Ok, Result, ℕ}
use mathlib.Core.Path.{◌≡◌, refl, sym, ap, ◌∙◌, subst}
use mathlib.Core.Bool.{Bool, true, false}
use mathlib.Core.List.{List, map}
use mathlib.Core.Option.{some}
use Prim.Native.Nat.{ℕ, ◌+◌, ◌-◌, ◌*◌, ◌≤◌, ◌<◌}
use native.Mathlib.Omega.{arith}
use lib.ListN.{length, length-map}
use lib.Seq.{sets, length-sets}
use Rattle.number.specs.Scan.{scan}
use Rattle.number.proofs.Choice.{both, from_not_lt}
use Rattle.number.proofs.Scans.{clash}
use Rattle.reading.specs.Got.{Accepted}
use Rattle.reading.specs.declared.Refusal.{Refusal}
use Rattle.head.specs.declared.Header.{Header}
use Rattle.typelib.specs.Across.{repeated}
use Rattle.typelib.specs.Directory.{key_on}
use Rattle.typelib.specs.Typelib.{Fronted, pool_of, context_of}
use Rattle.typelib.proofs.FrontLaws.{fronted_header}
use Rattle.rules.specs.Shows.{Bytes}
use Rattle.reader.specs.Reader.{decode}
use Rattle.link.specs.Outcome.{normalise_in, normalise_answer, normalise_buffer}
use Rattle.mend.specs.Left.{readable, Report, report, index_of, number_of, place_of, report_of, reports_of}
use Rattle.mend.specs.Cleared.{clear_all, cleared}
use Rattle.mend.specs.Tables.{Judged, Parents, number_in, place_in, number_for}
use Rattle.mend.proofs.Entries.{says}
use Rattle.mend.proofs.Accepts.{indexed}
use Rattle.mend.proofs.Tells.{Parents-in, number_told, place_told}
use Rattle.salvage.specs.Salvage.{too_short, Lent, outcome_of, Salvages}
use Rattle.salvage.specs.Tables.{clear_by, list_by, index_at, reported_at}
use Rattle.salvage.proofs.Tables.{cleared_by, listed_by, copied_whole}
use Rattle.salvage.proofs.Outcomes.{outcome_left, reports_left, left_Accepted, left_refused, left_written}

number_less : (r : Report) (v : ℕ) → v ≡ number_for (some r) → v - 1 ≡ number_of r
unfolding number_for number_of
number_less (report i n q) v e = omega arith

module _ (s : List ℕ) (h : Header) (w : Fronted s h) (own at ups : List ℕ) where
  pub Judged-is : (pool : List ℕ) → pool ≡ pool_of h s → Judged (context_of h) s pool h.directory h.count own at ups → Judged (context_of h) s (pool_of h s) h.directory h.count own at ups
  Judged-is pool m j = subst (λ (p : List ℕ). Judged (context_of h) s p h.directory h.count own at ups) m j

  module _ (j : Judged (context_of h) s (pool_of h s) h.directory h.count own at ups) where
    pub judged_Parents : Parents ups h.count
    judged_Parents = Parents-in s h w.notes w.rows w.end w.read own at ups j

    told : (k : ℕ) → k < h.count → number_in own ups h.count k ≡ number_for (report_of h s (readable h s w.rows) k)
    told k l = number_told s h w.notes w.rows w.end w.read own at ups j k l

    pub judged_cleared : clear_by (number_in own ups h.count) h.directory h.count s ≡ cleared s (reports_of h s (readable h s w.rows))
    unfolding cleared reports_of
    judged_cleared =
        cleared_by (number_in own ups h.count) (report_of h s (readable h s w.rows)) h.count told h.directory s (indexed h s (readable h s w.rows))
        ∙ ap (λ (d : ℕ). clear_all d (reports_of h s (readable h s w.rows)) s) (says s h w.notes w.rows w.end w.read).0.0.directory_at

    pub judged_indexes : list_by (number_in own ups h.count) index_at h.count ≡ map index_of (reports_of h s (readable h s w.rows))
    unfolding reports_of index_at
    judged_indexes =
        listed_by (number_in own ups h.count) (report_of h s (readable h s w.rows)) h.count told index_at index_of (λ k r l e. sym ((indexed h s (readable h s w.rows)).own k r e))

    pub judged_numbers : list_by (number_in own ups h.count) (reported_at (number_in own ups h.count)) h.count ≡ map number_of (reports_of h s (readable h s w.rows))
    unfolding reports_of reported_at
    judged_numbers =
        listed_by (number_in own ups h.count) (report_of h s (readable h s w.rows)) h.count told (reported_at (number_in own ups h.count)) number_of (λ k r l e. number_less r _ (told k l ∙ ap number_for e))

    pub judged_places : list_by (number_in own ups h.count) (place_in own at h.directory) h.count ≡ map place_of (reports_of h s (readable h s w.rows))
    unfolding reports_of
    judged_places =
        listed_by (number_in own ups h.count) (report_of h s (readable h s w.rows)) h.count told (place_in own at h.directory) place_of (λ k r l e. place_told s h w.notes w.rows w.end w.read own at ups j k r l e)

    pub judged_count : length (list_by (number_in own ups h.count) index_at h.count) ≡ length (reports_of h s (readable h s w.rows))
    judged_count = ap length judged_indexes ∙ length-map (reports_of h s (readable h s w.rows)) index_of

-- ---- the copy

pub copy_cleared : (f : ℕ → ℕ) (d n : ℕ) (s copy t u : List ℕ) → length copy ≡ length s → t ≡ sets copy 0 s → u ≡ clear_by f d n t → u ≡ clear_by f d n s
copy_cleared f d n s copy t u e a b = b ∙ ap (clear_by f d n) (a ∙ copied_whole s copy e)

pub copy_ready : (s : List ℕ) (h : Header) → Fronted s h → (copy t : List ℕ) → length copy ≡ length s → t ≡ sets copy 0 s → (h.count ≤ 1024) × (h.directory + 28 * h.count ≤ length t) × (length t ≤ 1048576)
copy_ready s h w copy t e a =
    let g = fronted_header s h w in
    let n : length t ≡ length s = ap length a ∙ length-sets copy 0 s ∙ e in
    (g.few, omega (arith, g.fits, g.inside), omega (arith, g.short))

pub directory_low : (s : List ℕ) (h : Header) → Fronted s h → h.directory ≤ 1048576
directory_low s h w = let g = fronted_header s h w in omega (arith, g.fits, g.inside, g.short)

pub long_lists : (a b c : ℕ) → too_short a b c ≡ false → (1024 ≤ a) × (1024 ≤ b) × (1024 ≤ c)
unfolding too_short
long_lists a b c =
    both P _ _ _ (λ _ t. clash true refl t) (λ u.
    both P _ _ _ (λ _ t. clash true refl t) (λ v t. (from_not_lt a 1024 u, from_not_lt b 1024 v, from_not_lt c 1024 t)))
  where
    P : Bool → Type 0
    P t = t ≡ false → (1024 ≤ a) × (1024 ≤ b) × (1024 ≤ c)

-- ---- the ends

module _ (s : List ℕ) (h : Header) (w : Fronted s h) (pool : List ℕ) (m : pool ≡ pool_of h s) (u : h.count ≤ scan (repeated (key_on s pool h.directory)) h.count 0)
    (l : Lent) (long : too_short (length l.indexes) (length l.numbers) (length l.places) ≡ false) (bytes : Bytes s)
    (own at ups : List ℕ) (j : Judged (context_of h) s (pool_of h s) h.directory h.count own at ups) (copy : List ℕ) (e : copy ≡ clear_by (number_in own ups h.count) h.directory h.count s) where
  copy_is : copy ≡ cleared s (reports_of h s (readable h s w.rows))
  copy_is = e ∙ judged_cleared s h w own at ups j

  pub ends_ready : Accepted (decode copy)
  ends_ready = subst (λ (x : List ℕ). Accepted (decode x)) (sym copy_is) (left_Accepted s h w pool m u l long bytes)

  same : outcome_of s l ≡ normalise_in (length l.out) copy
  same = outcome_left s h w pool m u l long bytes ∙ ap (normalise_in (length l.out)) (sym copy_is)

  pub ends_refused : (x : Refusal) {r : Result ℕ Refusal} {out : List ℕ} → r ≡ normalise_answer copy l.out → out ≡ normalise_buffer copy l.out → r ≡ Err x
      → Salvages s l (Err x) (record { indexes = l.indexes; numbers = l.numbers; places = l.places; out = out })
  ends_refused x a b q = left_refused s copy l same x a b q

  pub ends_written : (n changed : ℕ) {r : Result ℕ Refusal} {out indexes numbers places : List ℕ} → r ≡ normalise_answer copy l.out → out ≡ normalise_buffer copy l.out → r ≡ Ok n
      → changed ≡ length (list_by (number_in own ups h.count) index_at h.count)
      → indexes ≡ sets l.indexes 0 (list_by (number_in own ups h.count) index_at h.count)
      → numbers ≡ sets l.numbers 0 (list_by (number_in own ups h.count) (reported_at (number_in own ups h.count)) h.count)
      → places ≡ sets l.places 0 (list_by (number_in own ups h.count) (place_in own at h.directory) h.count)
      → Salvages s l (Ok (record { length = n; changed = changed })) (record { indexes = indexes; numbers = numbers; places = places; out = out })
  ends_written n changed a b q c i k p =
      left_written s copy l same (reports_of h s (readable h s w.rows)) (reports_left s h w pool m u l long bytes) n changed a b q (c ∙ judged_count s h w own at ups j)
      (i ∙ ap (sets l.indexes 0) (judged_indexes s h w own at ups j)) (k ∙ ap (sets l.numbers 0) (judged_numbers s h w own at ups j)) (p ∙ ap (sets l.places 0) (judged_places s h w own at ups j))
