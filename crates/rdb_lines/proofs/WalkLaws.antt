-- Lines that are met one after another.
-- Assumes nothing.
use mathlib.Core.Path.{◌≡◌, refl, sym, ap, ◌∙◌, subst}
use mathlib.Core.List.{List, [], ◌∷◌, ◌++◌}
use Prim.Native.Nat.{ℕ, ◌+◌, ◌≤◌, ◌<◌}
use native.Mathlib.Omega.{arith}
use lib.ListN.{length}
use Rattle.number.specs.Choice.{◌<?◌}
use Rattle.number.proofs.Choice.{both, is_lt, no_lt}
use Rattle.rdb_list.specs.Listed.{Line}
use Rattle.window.specs.Window.{window, Passed}
use Rattle.window.proofs.WindowLaws.{length-window}
use Rattle.rdb_line.specs.Text.{line_text}
use Rattle.rdb_line.specs.Spelt.{line_room}
use Rattle.rdb_line.proofs.LineLaws.{line_some}
use Rattle.rdb_lines.specs.declared.Pass.{Pass}
use Rattle.rdb_lines.specs.Walk.{buffer_bytes, skipped, passed, stepped, shown_line, pass_all, show_all, Walked, Fit}

-- ---- one line

module _ (from : ℕ) (x : Line) (p : Pass) where
  pub step_stop : from + buffer_bytes ≤ p.place → stepped from x p ≡ p
  unfolding stepped
  step_stop h = sym (no_lt _ _ _ _ h refl)

  pub show_stop : (out : List ℕ) → from + buffer_bytes ≤ p.place → shown_line from x p out ≡ out
  unfolding shown_line
  show_stop out h = sym (no_lt _ _ _ _ h refl)

  module _ (h : p.place < from + buffer_bytes) where
    pub step_skip : 0 < p.skip → stepped from x p ≡ skipped p
    unfolding stepped
    step_skip k = sym (is_lt _ _ _ _ h (is_lt _ _ _ _ k refl))

    pub show_skip : (out : List ℕ) → 0 < p.skip → shown_line from x p out ≡ out
    unfolding shown_line
    show_skip out k = sym (is_lt _ _ _ _ h (is_lt _ _ _ _ k refl))

    pub step_pass : p.skip ≡ 0 → stepped from x p ≡ passed (length (line_text x)) p
    unfolding stepped
    step_pass k = sym (is_lt _ _ _ _ h (no_lt _ _ _ _ (omega arith) refl))

    pub show_pass : (out : List ℕ) → p.skip ≡ 0 → shown_line from x p out ≡ window from p.place (line_text x) out
    unfolding shown_line
    show_pass out k = sym (is_lt _ _ _ _ h (no_lt _ _ _ _ (omega arith) refl))

  line_kept : (out : List ℕ) → length (shown_line from x p out) ≡ length out
  unfolding shown_line
  line_kept out =
      both (λ (l : List ℕ). length l ≡ length out) (p.place <? from + buffer_bytes) _ _
      (λ _. both (λ (l : List ℕ). length l ≡ length out) (0 <? p.skip) _ _ (λ _. refl) (λ _. length-window from p.place (line_text x) out))
      (λ _. refl)

-- ---- lines in turn

module _ (from : ℕ) where
  pass_append : (xs ys : List Line) (p : Pass) → pass_all from (xs ++ ys) p ≡ pass_all from ys (pass_all from xs p)
  unfolding pass_all
  pass_append [] ys p = refl
  pass_append (x ∷ xs) ys p = pass_append xs ys (stepped from x p)

  show_append : (xs ys : List Line) (p : Pass) (out : List ℕ) → show_all from (xs ++ ys) p out ≡ show_all from ys (pass_all from xs p) (show_all from xs p out)
  unfolding pass_all show_all
  show_append [] ys p out = refl
  show_append (x ∷ xs) ys p out = show_append xs ys (stepped from x p) (shown_line from x p out)

  pub pass_stopped : (xs : List Line) (p : Pass) → from + buffer_bytes ≤ p.place → pass_all from xs p ≡ p
  unfolding pass_all
  pass_stopped [] p h = refl
  pass_stopped (x ∷ xs) p h = ap (pass_all from xs) (step_stop from x p h) ∙ pass_stopped xs p h

  pub show_stopped : (xs : List Line) (p : Pass) (out : List ℕ) → from + buffer_bytes ≤ p.place → show_all from xs p out ≡ out
  unfolding show_all
  show_stopped [] p out h = refl
  show_stopped (x ∷ xs) p out h = rw (step_stop from x p h, show_stop from x p out h) (show_stopped xs p out h)

  show_kept : (xs : List Line) (p : Pass) (out : List ℕ) → length (show_all from xs p out) ≡ length out
  unfolding show_all
  show_kept [] p out = refl
  show_kept (x ∷ xs) p out = show_kept xs (stepped from x p) (shown_line from x p out) ∙ line_kept from x p out

module _ {from : ℕ} where
  pub Walked-none : {p : Pass} {b : List ℕ} → Walked from [] p b p b
  unfolding pass_all show_all
  Walked-none = record { state = refl; shown = refl }

  pub Walked-then : {xs ys : List Line} {p q r : Pass} {b c d : List ℕ} → Walked from xs p b q c → Walked from ys q c r d → Walked from (xs ++ ys) p b r d
  Walked-then {xs} {ys} {p} {q} {r} {b} {c} {d} f g = record {
    state = g.state ∙ ap (pass_all from ys) f.state ∙ sym (pass_append from xs ys p);
    shown = g.shown ∙ ap (λ (t : Pass). show_all from ys t c) f.state ∙ ap (show_all from ys (pass_all from xs p)) f.shown ∙ sym (show_append from xs ys p b);
  }

  pub Walked-as : {xs ys : List Line} {p r : Pass} {b c : List ℕ} → xs ≡ ys → Walked from xs p b r c → Walked from ys p b r c
  Walked-as {xs} {ys} {p} {r} {b} {c} e w = subst (λ (l : List Line). Walked from l p b r c) e w

  pub Walked-kept : {xs : List Line} {p r : Pass} {b c : List ℕ} → Walked from xs p b r c → length c ≡ length b
  Walked-kept {xs} {p} {r} {b} {c} w = ap (λ (l : List ℕ). length l) w.shown ∙ show_kept from xs p b

  -- the buffer is full
  pub Walked-stop : (xs : List Line) {p : Pass} {b : List ℕ} → from + buffer_bytes ≤ p.place → Walked from xs p b p b
  Walked-stop xs {p} {b} h = record { state = sym (pass_stopped from xs p h); shown = sym (show_stopped from xs p b h) }

  module _ (x : Line) (p : Pass) (h : p.place < from + buffer_bytes) where
    pub Walked-skip : {b : List ℕ} → 0 < p.skip → Walked from (x ∷ []) p b (skipped p) b
    unfolding pass_all show_all
    Walked-skip {b} k = record { state = sym (step_skip from x p h k); shown = sym (show_skip from x p h b k) }

    pub Walked-line : {e : ℕ} {b c : List ℕ} → p.skip ≡ 0 → Passed from p.place (line_text x) b e c → Walked from (x ∷ []) p b (record { skip = 0; lines = p.lines + 1; place = e; mark = p.place }) c
    unfolding pass_all show_all
    Walked-line {e} {b} {c} k g = record {
      state = ap {B = Pass} (λ (n : ℕ). record { skip = 0; lines = p.lines + 1; place = n; mark = p.place }) g.next ∙ sym (step_pass from x p h k);
      shown = g.shown ∙ sym (show_pass from x p h b k);
    }

    pub Fit-line : {e : ℕ} {b c : List ℕ} → Fit from p → Passed from p.place (line_text x) b e c → e ≤ p.place + line_room → Fit from (record { skip = 0; lines = p.lines + 1; place = e; mark = p.place })
    Fit-line f g r = record { few = omega (arith, f.few, g.next, line_some x); last = r; near = omega arith }

-- ---- a loop over lines: of all of them, those that are left

pub record Going (from : ℕ) (all : List Line) (p : Pass) (b : List ℕ) (left : List Line) (q : Pass) (c : List ℕ) : Type 0 where
  pub on : (r : Pass) (d : List ℕ) → Walked from left q c r d → Walked from all p b r d

module _ {from : ℕ} {all : List Line} {p : Pass} {b : List ℕ} where
  pub Going-start : {left : List Line} → left ≡ all → Going from all p b left p b
  Going-start e = record { on = λ r d w. Walked-as e w }

  module _ {left : List Line} {q : Pass} {c : List ℕ} (g : Going from all p b left q c) where
    pub Going-on : (xs rest : List Line) {r : Pass} {d : List ℕ} → left ≡ xs ++ rest → Walked from xs q c r d → Going from all p b rest r d
    Going-on xs rest e w = record { on = λ t u v. g.on t u (Walked-as (sym e) (Walked-then w v)) }

    pub going_over : left ≡ [] → Walked from all p b q c
    going_over e = g.on q c (Walked-as (sym e) Walked-none)

    pub going_stop : from + buffer_bytes ≤ q.place → Walked from all p b q c
    going_stop h = g.on q c (Walked-stop left h)

    pub going_kept : length c ≡ length b
    going_kept =
        let w = g.on (pass_all from left q) (show_all from left q c) (record { state = refl; shown = refl }) in
        sym (show_kept from left q c) ∙ Walked-kept w
