-- The two answers of the command adopt.
-- Assumes nothing.
use Rattle.std.specs.Prelude.{Err, None, Ok, Result, Some, ℕ}
use mathlib.Core.Path.{◌≡◌, refl, ◌∙◌}
use mathlib.Core.List.{List}
use Prim.Native.Nat.{ℕ, ◌-◌, ◌≤◌}
use native.Mathlib.Omega.{arith}
use lib.ListN.{length, take}
use Rattle.reading.specs.declared.Refusal.{Refusal}
use Rattle.said.specs.declared.Said.{Said}
use Rattle.said.specs.declared.Why.TheVariants as why
use Rattle.said.specs.Texts.{refused_line}
use Rattle.said.specs.Saying.{Says, saying}
use Rattle.reader.specs.Reader.{check_of}
use Rattle.link.specs.declared.Which.TheVariants.{First}
use Rattle.adopt.specs.Adopt.{adopt_answer, adopt_buffer}
use Rattle.outcomes.specs.Lines.{adopted_text, normalised_text, normalised_why, say_normalised, say_adopted}
use Rattle.made.specs.Made.{answered, normalised_save, written_in, adopt_made, Makes}
use Rattle.made.proofs.SaveLaws.{adopt_saves}

-- what was written lies within the output
pub adopt_within : (s out : List ℕ) {n : ℕ} → Ok n ≡ adopt_answer s out → n ≤ length out
unfolding normalised_save
adopt_within s out e = rw (← e) at (adopt_saves s out)

module _ (s out : List ℕ) where
  written_made : (n : ℕ) → Ok n ≡ adopt_answer s out
      → adopt_made s out ≡ record { saying = saying (adopted_text n (check_of (take n (adopt_buffer s out)))) why.Answered; whose = First; save = Some n; output = adopt_buffer s out }
  unfolding adopt_made say_adopted normalised_save written_in
  written_made n e = rw (← e) refl

  refused_made : (x : Refusal) → Err x ≡ adopt_answer s out → adopt_made s out ≡ answered (saying (refused_line x) (why.Refused x)) (adopt_buffer s out)
  unfolding adopt_made say_adopted say_normalised normalised_text normalised_why normalised_save written_in
  refused_made x e = rw (← e) refl

  module _ (left before after : List ℕ) (f : left ≡ adopt_buffer s out) (said : Said) where
    pub written-Makes : (n : ℕ) → Ok n ≡ adopt_answer s out → (v : Result ℕ Refusal) → v ≡ check_of (take (n - 0) left) → Says (saying (adopted_text n v) why.Answered) before said after
        → Makes (adopt_made s out) before (record { said = said; whose = First; save = Some n }) left after
    written-Makes n e v g h =
        let z : n - 0 ≡ n = omega arith in
        let q : v ≡ check_of (take n (adopt_buffer s out)) = g ∙ (λ i. check_of (take (z i) (f i))) in
        rw (written_made n e) (record { says = rw (← q) h; whose = refl; save = refl; output = f })

    pub refused-Makes : (x : Refusal) → Err x ≡ adopt_answer s out → Says (saying (refused_line x) (why.Refused x)) before said after
        → Makes (adopt_made s out) before (record { said = said; whose = First; save = None }) left after
    refused-Makes x e h = rw (refused_made x e) (record { says = h; whose = refl; save = refl; output = f })
