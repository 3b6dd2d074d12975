-- What is known of descriptors one by one: the code's ways, and that a pointer which leads in decides all of it.
-- Assumes nothing.
use Rattle.std.specs.Prelude.{Err, Result, ℕ}
use mathlib.Core.Path.{◌≡◌, refl, sym, ap, ◌∙◌}
use mathlib.Core.List.{List}
use mathlib.Core.Option.{Option, none, some}
use Prim.Native.Nat.{ℕ, ◌+◌, ◌-◌, ◌*◌, ◌≤◌, ◌<◌}
use native.Mathlib.Omega.{arith}
use native.Mathlib.Decide.{ℕ_discrete}
use lib.ListN.{length, get_or, set}
use Rattle.number.specs.Number.{be}
use Rattle.number.specs.Scan.{scan}
use Rattle.number.proofs.Choice.{is_eq, no_eq, not_eq, not_lt, from_yes_eq}
use Rattle.number.proofs.Scans.{scan_found}
use Rattle.reading.specs.Got.{Got, got, bad, next, step_of, Accepted}
use Rattle.reading.specs.declared.Context.{Context}
use Rattle.reading.specs.declared.Refusal.{Refusal}
use Rattle.reading.proofs.Steps.{told}
use Rattle.reading.proofs.Passes.{pass_false}
use Rattle.sorting.proofs.Tables.{fill_none, fill_more}
use Rattle.descriptor.specs.Descriptor.{Descriptor, read_descriptor}
use Rattle.typelib.specs.Entry.{read_own}
use Rattle.typelib.specs.Across.{above}
use Rattle.typelib.specs.Directory.{own_pointer, points_to, above_on}
use Rattle.typelib.proofs.OwnLaws.{own_says}
use Rattle.typelib.proofs.WholeLaws.{above_own, own_inside}
use Rattle.mend.specs.declared.Mark.{Mark}
use Rattle.mend.specs.Tables.{mark_of, own_mark, own_number, own_place, own_up, Judged}
use Rattle.mend.proofs.Accepts.{own_none}

-- ---- the index above an entry whose descriptor is accepted

module _ (c : Context) (s pool : List ℕ) (d k q : ℕ) (h : q ≡ be 4 s (d + 28 * k + 24)) (a : Accepted (read_own c s pool (d + 28 * k))) where
  up_is : own_up c s pool d k ≡ above_on s pool d k
  unfolding own_up own_mark mark_of
  up_is = ap (λ (x : Got (Option (Descriptor ℕ))). (mark_of x).up) a.2 ∙ above_own c s pool d k a.0 (own_says c s pool (d + 28 * k) a.2).0

  pub up_none : q ≡ 0 → 0 ≡ own_up c s pool d k
  unfolding above_on own_pointer
  up_none z = is_eq _ _ _ _ (sym h ∙ z) refl ∙ sym up_is

  module _ (z : q ≡ 0 → ⊥) where
    pub up_inside : q - 1 + 2 ≤ length pool
    up_inside = rw h (own_inside c s pool d k a.0 (own_says c s pool (d + 28 * k) a.2).0 (λ e. z (h ∙ e)))

    pub up_read : {v : ℕ} → v ≡ be 2 pool (q - 1) → v ≡ own_up c s pool d k
    unfolding above_on own_pointer
    up_read e = no_eq _ _ _ _ (λ w. z (h ∙ w)) (e ∙ ap (λ (x : ℕ). be 2 pool (x - 1)) h) ∙ sym up_is

-- ---- a mark from an answer

module _ (g : Got (Option (Descriptor ℕ))) where
  pub mark_end : Accepted g → {u : ℕ} → u ≡ (mark_of g).up → record { number = 0; place = 0; up = u } ≡ mark_of g
  unfolding mark_of
  mark_end a {u} e = go a.2 e
    where
      go : g ≡ got a.0 a.1 → u ≡ (mark_of g).up → record { number = 0; place = 0; up = u } ≡ mark_of g
      go q e = let f : u ≡ above a.0 = e ∙ ap (λ (x : Got (Option (Descriptor ℕ))). (mark_of x).up) q in rw (q, f) refl

  pub mark_refused : {r : Result ℕ Refusal} (x : Refusal) → r ≡ Err x → r ≡ step_of g → record { number = x.no + 1; place = x.place; up = 0 } ≡ mark_of g
  unfolding mark_of
  mark_refused x q w = rw (told g (sym q ∙ w)) refl

-- ---- a pointer that leads in

end_free : (g : Got (Descriptor ℕ)) (e f : ℕ) → mark_of (next g λ d _. got (some d) e) ≡ mark_of (next g λ d _. got (some d) f)
unfolding mark_of next
end_free (got x b) e f = refl
end_free (bad n q) e f = refl

none_free : (e f : ℕ) → mark_of (got none e) ≡ mark_of (got none f)
unfolding mark_of
none_free e f = refl

own_next : (c : Context) (s pool : List ℕ) (p : ℕ) → (be 4 s (p + 24) ≡ 0 → ⊥) → be 4 s (p + 24) ≤ length pool → read_own c s pool p ≡ next (read_descriptor c pool (be 4 s (p + 24) - 1)) λ d _. got (some d) (p + 28)
unfolding read_own
own_next c s pool p z l = pass_false _ _ _ (not_eq _ 0 z) (pass_false _ _ _ (not_lt _ _ l) refl)

mark_same : (c : Context) (s pool : List ℕ) (p r : ℕ) → be 4 s (p + 24) ≡ be 4 s (r + 24) → be 4 s (r + 24) ≤ length pool → mark_of (read_own c s pool p) ≡ mark_of (read_own c s pool r)
mark_same c s pool p r q l = elim (ℕ_discrete (be 4 s (r + 24)) 0) [
  | yes z ↦ ap mark_of (own_none c s pool p (q ∙ z)) ∙ none_free (p + 28) (r + 28) ∙ sym (ap mark_of (own_none c s pool r z))
  | no f ↦
      ap mark_of (own_next c s pool p (λ e. f (sym q ∙ e)) (rw q l))
      ∙ ap (λ (x : ℕ). mark_of (next (read_descriptor c pool (x - 1)) λ d _. got (some d) (p + 28))) q
      ∙ end_free (read_descriptor c pool (be 4 s (r + 24) - 1)) (p + 28) (r + 28) ∙ sym (ap mark_of (own_next c s pool r f l))
]

-- ---- the tables

module _ (c : Context) (s pool : List ℕ) (d : ℕ) where
  mark_held : (numbers places ups : List ℕ) (k j : ℕ) → Judged c s pool d k numbers places ups → j < k → record { number = get_or numbers j 0; place = get_or places j 0; up = get_or ups j 0 } ≡ own_mark c s pool d j
  unfolding own_number own_place own_up
  mark_held numbers places ups k j w l = (λ i. record { number = w.number.held j l i; place = w.place.held j l i; up = w.up.held j l i })

  pub mark_shared : (numbers places ups : List ℕ) (k j q : ℕ) → Judged c s pool d k numbers places ups → j ≡ scan (points_to s d q) k 0 → j < k → q ≡ be 4 s (d + 28 * k + 24) → q ≤ length pool
      → record { number = get_or numbers j 0; place = get_or places j 0; up = get_or ups j 0 } ≡ own_mark c s pool d k
  unfolding own_mark points_to own_pointer
  mark_shared numbers places ups k j q w e l h b =
      let f = scan_found (points_to s d q) k 0 (omega arith) in
      let m : be 4 s (d + 28 * scan (points_to s d q) k 0 + 24) ≡ q = from_yes_eq _ _ f in
      let y : be 4 s (d + 28 * j + 24) ≡ be 4 s (d + 28 * k + 24) = ap (λ (x : ℕ). be 4 s (d + 28 * x + 24)) e ∙ m ∙ h in
      mark_held numbers places ups k j w l ∙ mark_same c s pool (d + 28 * j) (d + 28 * k) y (rw (← h) b)

  pub Judged-none : (numbers places ups : List ℕ) → Judged c s pool d 0 numbers places ups
  Judged-none numbers places ups = record { number = fill_none _ _; place = fill_none _ _; up = fill_none _ _ }

  pub Judged-more : (numbers places ups : List ℕ) (k : ℕ) (m : Mark) → k < length numbers → k < length places → k < length ups → m ≡ own_mark c s pool d k → Judged c s pool d k numbers places ups
      → Judged c s pool d (k + 1) (set numbers k m.number) (set places k m.place) (set ups k m.up)
  unfolding own_number own_place own_up
  Judged-more numbers places ups k m a b u e w = record {
    number = fill_more numbers _ k m.number a (ap (λ (x : Mark). x.number) e) w.number;
    place = fill_more places _ k m.place b (ap (λ (x : Mark). x.place) e) w.place;
    up = fill_more ups _ k m.up u (ap (λ (x : Mark). x.up) e) w.up;
  }
