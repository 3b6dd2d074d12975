-- What the tables of judged descriptors tell of each entry is what is reported of it.
-- Assumes nothing.
use mathlib.Core.Path.{◌≡◌, refl, sym, ap, ◌∙◌}
use mathlib.Core.List.{List}
use mathlib.Core.Option.{Option, none, some}
use Prim.Native.Nat.{ℕ, zero, suc, ◌+◌, ◌*◌, ◌≤◌, ◌<◌}
use native.Mathlib.Omega.{arith}
use lib.ListN.{get_or}
use Rattle.number.specs.Choice.{◌=?◌}
use Rattle.number.proofs.Choice.{yes_eq, not_eq}
use Rattle.number.proofs.Scans.{some_ext}
use Rattle.reading.specs.Got.{Got, got, bad}
use Rattle.reading.proofs.Passes.{pass_true, pass_false}
use Rattle.head.specs.declared.Header.{Header}
use Rattle.head.specs.Annotation.{Annotation}
use Rattle.directory.specs.Directory.{Row}
use Rattle.descriptor.specs.Descriptor.{Descriptor}
use Rattle.typelib.specs.Across.{above, above_in}
use Rattle.typelib.specs.Typelib.{front, pool_of, context_of, read_front}
use Rattle.rules.specs.Rules.{rise, climb}
use Rattle.mend.specs.Cycle.{back_after, returns}
use Rattle.mend.specs.Left.{own_read, left_of, readable, on_cycle, Report, report, place_of, report_of}
use Rattle.mend.specs.Tables.{mark_of, own_mark, own_number, own_place, own_up, Judged, Parents, up_in, number_in, place_in, number_for}
use Rattle.mend.proofs.Entries.{count, above_at, parents}
use Rattle.mend.proofs.Accepts.{refused, cycled, fine, told}

up_of : (g : Got (Option (Descriptor ℕ))) → (mark_of g).up ≡ above (left_of g)
unfolding mark_of left_of above
up_of (got o e) = refl
up_of (bad n q) = refl

number_got : (o : Option (Descriptor ℕ)) (e : ℕ) → (mark_of (got o e)).number ≡ 0
unfolding mark_of
number_got o e = refl

number_bad : (n q : ℕ) → ((mark_of (bad n q)).number ≡ n + 1) × ((mark_of (bad n q)).place ≡ q)
unfolding mark_of
number_bad n q = (refl, refl)

module _ (s : List ℕ) (h : Header) (notes : List Annotation) (rows : List Row) (e : ℕ) (read : read_front s ≡ got (front h notes rows) e)
    (own at ups : List ℕ) (w : Judged (context_of h) s (pool_of h s) h.directory h.count own at ups) where
  number_at_lem : (k : ℕ) → k < h.count → get_or own k 0 ≡ (mark_of (own_read h s k)).number
  unfolding own_number own_mark own_read
  number_at_lem k l = w.number.held k l

  place_at : (k : ℕ) → k < h.count → get_or at k 0 ≡ (mark_of (own_read h s k)).place
  unfolding own_place own_mark own_read
  place_at k l = w.place.held k l

  up_at : (k : ℕ) → k < h.count → up_in ups k ≡ above_in (readable h s rows) k
  unfolding up_in own_up own_mark own_read
  up_at k l = w.up.held k l ∙ up_of (own_read h s k) ∙ sym (above_at s h notes rows e read k l)

  pub Parents-in : Parents ups h.count
  unfolding up_in
  Parents-in = record { each = λ k l. let q : get_or ups k 0 ≡ above_in (readable h s rows) k = up_at k l in let n = count s h notes rows e read in omega (arith, q, parents s h notes rows e read k (omega arith)) }

  -- ---- steps up

  rise_same : (x : ℕ) → x ≤ h.count → rise (up_in ups) x ≡ rise (above_in (readable h s rows)) x
  rise_same zero l = refl
  rise_same (suc i) l = up_at i l

  rise_below : (x : ℕ) → x ≤ h.count → rise (above_in (readable h s rows)) x ≤ h.count
  rise_below zero l = l
  rise_below (suc i) l = let n = count s h notes rows e read in omega (arith, parents s h notes rows e read i (omega arith))

  climb_same : (t x : ℕ) → x ≤ h.count → climb t (up_in ups) x ≡ climb t (above_in (readable h s rows)) x
  climb_same zero x l = refl
  climb_same (suc t) x l = ap (climb t (up_in ups)) (rise_same x l) ∙ climb_same t (rise (above_in (readable h s rows)) x) (rise_below x l)

  returns_same : (k : ℕ) → k < h.count → returns (up_in ups) h.count k ≡ on_cycle (readable h s rows) k
  unfolding returns back_after on_cycle
  returns_same k l =
      some_ext (back_after (up_in ups) k) (back_after (above_in (readable h s rows)) k) h.count (λ t m. ap (λ (x : ℕ). x =? k + 1) (climb_same (suc t) (k + 1) (omega arith)))
      ∙ ap (λ (n : ℕ). returns (above_in (readable h s rows)) n k) (sym (count s h notes rows e read))

  -- ---- reports

  pub number_told : (k : ℕ) → k < h.count → number_in own ups h.count k ≡ number_for (report_of h s (readable h s rows) k)
  unfolding number_in number_for
  number_told k l = elim (told h s (readable h s rows) k) [
    | refused n q a b ↦
        let v : get_or own k 0 ≡ n + 1 = number_at_lem k l ∙ ap (λ (g : Got (Option (Descriptor ℕ))). (mark_of g).number) a ∙ (number_bad n q).0 in
        pass_false _ _ _ (not_eq _ 0 (λ z. omega arith)) (v ∙ ap number_for (sym b))
    | cycled o x a b c ↦
        let v : get_or own k 0 ≡ 0 = number_at_lem k l ∙ ap (λ (g : Got (Option (Descriptor ℕ))). (mark_of g).number) a ∙ number_got o x in
        pass_true _ _ _ (yes_eq _ 0 v) (pass_true _ _ _ (returns_same k l ∙ b) (ap number_for (sym c)))
    | fine o x a b c ↦
        let v : get_or own k 0 ≡ 0 = number_at_lem k l ∙ ap (λ (g : Got (Option (Descriptor ℕ))). (mark_of g).number) a ∙ number_got o x in
        pass_true _ _ _ (yes_eq _ 0 v) (pass_false _ _ _ (returns_same k l ∙ b) (ap number_for (sym c)))
  ]

  pub place_told : (k : ℕ) (r : Report) → k < h.count → report_of h s (readable h s rows) k ≡ some r → place_in own at h.directory k ≡ place_of r
  unfolding place_in place_of
  place_told k r l y = elim (told h s (readable h s rows) k) [
    | refused n q a b ↦
        let v : get_or own k 0 ≡ n + 1 = number_at_lem k l ∙ ap (λ (g : Got (Option (Descriptor ℕ))). (mark_of g).number) a ∙ (number_bad n q).0 in
        let u : get_or at k 0 ≡ q = place_at k l ∙ ap (λ (g : Got (Option (Descriptor ℕ))). (mark_of g).place) a ∙ (number_bad n q).1 in
        pass_false _ _ _ (not_eq _ 0 (λ z. omega arith)) (u ∙ sym (same r (report (k + 1) n q) (sym y ∙ b)))
    | cycled o x a b c ↦
        let v : get_or own k 0 ≡ 0 = number_at_lem k l ∙ ap (λ (g : Got (Option (Descriptor ℕ))). (mark_of g).number) a ∙ number_got o x in
        pass_true _ _ _ (yes_eq _ 0 v) (sym (same r (report (k + 1) 19 (h.directory + 28 * k)) (sym y ∙ c)))
    | fine o x a b c ↦ absurd (let z : ◌≡◌ {A = Option Report} (some r) none = sym y ∙ c in let t : ◌≡◌ {A = ℕ} 0 1 = cc in omega arith)
  ]
    where
      same : (r u : Report) → some r ≡ some u → place_of r ≡ place_of u
      same r u z = cc
