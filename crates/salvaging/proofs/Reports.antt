-- There are no more reports than a file may have entries.
-- Assumes nothing.
use mathlib.Core.Path.{◌≡◌, refl}
use mathlib.Core.List.{List, [], ◌∷◌}
use mathlib.Core.Option.{Option, none, some}
use Prim.Native.Nat.{ℕ, ◌≤◌}
use native.Mathlib.Omega.{arith}
use lib.ListN.{length}
use Rattle.number.proofs.Choice.{both}
use Rattle.reading.specs.Got.{Got, got, bad, next}
use Rattle.head.specs.declared.Header.{Header}
use Rattle.head.specs.Annotation.{Annotation}
use Rattle.typelib.specs.Entry.{Entry}
use Rattle.typelib.specs.Typelib.{Front, front, read_front}
use Rattle.typelib.proofs.FrontLaws.{fronted_header}
use Rattle.bridge.specs.Span.{span}
use Rattle.bridge.proofs.Spans.{length-span}
use Rattle.mend.specs.Left.{report_of, prepend, present, reports_of, Left, left_behind, behind_front, read_left}
use Rattle.salvage.specs.Salvage.{reports_in}

present_few : {X : Type 0} (os : List (Option X)) → length (present os) ≤ length os
unfolding present prepend
present_few [] = omega arith
present_few (none ∷ os) = omega (arith, present_few os)
present_few (some x ∷ os) = omega (arith, present_few os)

of_few : (h : Header) (s : List ℕ) (es : List (Entry ℕ)) → length (reports_of h s es) ≤ h.count
unfolding reports_of
of_few h s es = omega (arith, present_few (span (report_of h s es) h.count), length-span (report_of h s es) h.count)

Few : Got Left → Type 0
Few g = length (reports_in g) ≤ 1024

behind_Few : (s : List ℕ) (h : Header) (notes : List Annotation) (es : List (Entry ℕ)) (e : ℕ) → h.count ≤ 1024 → Few (left_behind s h notes es e)
unfolding left_behind reports_in Few
behind_Few s h notes es e l = both Few _ _ _ (λ _. omega arith) (λ _. omega (arith, of_few h s es))

pub reports_few : (s : List ℕ) → length (reports_in (read_left s)) ≤ 1024
unfolding read_left next behind_front reports_in Few
reports_few s = go (read_front s) refl
  where
    go : (f : Got Front) → read_front s ≡ f → Few (next f (λ x e. behind_front s x e))
    go (bad n q) w = omega arith
    go (got (front h notes rows) e) w = behind_Few s h notes _ e (fronted_header s h (record { notes = notes; rows = rows; end = e; read = w })).few
