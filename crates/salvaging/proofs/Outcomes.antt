-- What salvaging with lists of 1,024 numbers answers, and what is said of it.
-- Assumes nothing.
use Rattle.std.specs.Prelude.{Err, Ok, Result}
use mathlib.Core.Path.{◌≡◌, refl, sym, ap, ◌∙◌}
use mathlib.Core.Bool.{Bool}
use mathlib.Core.List.{List}
use Prim.Native.Nat.{ℕ, ◌≤◌}
use native.Mathlib.Omega.{arith}
use lib.ListN.{length}
use Rattle.reading.specs.declared.Refusal.{Refusal}
use Rattle.joining.specs.Outcome.{Outcome, refused, written, after, normalised_as}
use Rattle.mend.specs.Left.{Report, index_of, number_of, place_of, read_left}
use Rattle.salvage.specs.declared.Remains.{Remains}
use Rattle.salvage.specs.Salvage.{salvage_of, reports_in, salvaged_as, listed, Lent, room_in, outcome_of, Salvages}
use Rattle.said.specs.declared.Said.{Said}
use Rattle.said.specs.declared.Why.TheVariants as why
use Rattle.said.specs.Texts.{refused_line}
use Rattle.said.specs.Saying.{Says, saying}
use Rattle.salvaging.specs.Text.{saying_salvaged, salvage_in, salvage_saying, salvage_answer, salvage_buffer}
use Rattle.salvaging.specs.Lists.{list_text}
use Rattle.salvaging.specs.Tells.{Tells}
use Rattle.salvaging.proofs.Reports.{reports_few}
use Rattle.salvaging.proofs.Lines.{text_is}

-- ---- the outcome of an answer

was_written : (o : Outcome Refusal) (rs : List Report) (x : Remains) → salvaged_as o rs ≡ Ok x → (bytes : List ℕ) × (o ≡ written bytes) × (x.length ≡ length bytes) × (x.changed ≡ length rs)
unfolding salvaged_as
was_written (refused y) rs x e = absurd (let z : ◌≡◌ {A = ℕ} 0 1 = cc in omega arith)
was_written (written bytes) rs x e = (bytes, refl, cc, cc)

was_refused : (o : Outcome Refusal) (rs : List Report) (x : Refusal) → salvaged_as o rs ≡ Err x → o ≡ refused x
unfolding salvaged_as
was_refused (refused y) rs x e = cc
was_refused (written bytes) rs x e = absurd (let z : ◌≡◌ {A = ℕ} 0 1 = cc in omega arith)

-- ---- with lists of 1,024

module _ (s : List ℕ) (l : Lent) (a : 1024 ≡ length l.indexes) (b : 1024 ≡ length l.numbers) (c : 1024 ≡ length l.places) {r : Result Remains Refusal} {m : Lent} (h : Salvages s l r m) where
  same : outcome_of s l ≡ salvage_in (length l.out) s
  unfolding outcome_of salvage_in room_in
  same = sym (λ i. salvage_of (record { indexes = a i; numbers = b i; places = c i; bytes = length l.out }) (read_left s))

  output : m.out ≡ salvage_buffer s l.out
  unfolding salvage_buffer
  output = h.out ∙ ap (λ (o : Outcome Refusal). after o l.out) same

  pub changed_few : (x : Remains) → r ≡ Ok x → x.changed ≤ 1024
  changed_few x e = omega (arith, (was_written _ _ x (sym h.answer ∙ e)).3, reports_few s)

  pub Tells-written : (in_batch : Bool) (x : Remains) (text text_after : List ℕ) (said : Said) → r ≡ Ok x
      → Says (saying (list_text in_batch x.length m.indexes m.numbers m.places x.changed) why.Answered) text said text_after
      → Tells in_batch s l.out text (record { said = said; done = Ok x.length }) m.out text_after
  unfolding salvage_saying saying_salvaged salvage_answer normalised_as listed
  Tells-written in_batch x text text_after said e w =
      let q = was_written _ _ x (sym h.answer ∙ e) in
      let o : salvage_in (length l.out) s ≡ written q.0 = sym same ∙ q.1 in
      let rs : List Report = reports_in (read_left s) in
      let few = reports_few s in
      let k = h.indexes ∙ ap (λ (z : Outcome Refusal). listed z index_of rs l.indexes) q.1 in
      let n = h.numbers ∙ ap (λ (z : Outcome Refusal). listed z number_of rs l.numbers) q.1 in
      let p = h.places ∙ ap (λ (z : Outcome Refusal). listed z place_of rs l.places) q.1 in
      let t = text_is rs l.indexes l.numbers l.places m.indexes m.numbers m.places (omega arith) (omega arith) (omega arith) k n p in_batch x.length x.changed q.3 in
      record {
        said = rw (o, ← q.2, ← t) w;
        done = rw (o, ← q.2) refl;
        output = output;
      }

  pub Tells-refused : (in_batch : Bool) (x : Refusal) (text text_after : List ℕ) (said : Said) → r ≡ Err x → Says (saying (refused_line x) (why.Refused x)) text said text_after
      → Tells in_batch s l.out text (record { said = said; done = Err x }) m.out text_after
  unfolding salvage_saying saying_salvaged salvage_answer normalised_as
  Tells-refused in_batch x text text_after said e w =
      let o : salvage_in (length l.out) s ≡ refused x = sym same ∙ was_refused _ _ x (sym h.answer ∙ e) in
      record { said = rw o w; done = rw o refl; output = output }
