-- What is said: a line, and whether it answers, refuses or tells a mistake; and what a writer of such a line promises.
-- Assumes nothing.
use Rattle.reading.specs.declared.Refusal.{Refusal}
use Rattle.std.specs.Prelude.{◌≡◌, List, ℕ, ◌≤◌, length, Err, Ok, Result}
use Rattle.std.proofs.lemmas.List.Edits.{sets}
use Rattle.text.specs.Line.{line_of}
use Rattle.said.specs.declared.Why.{Why}
use Rattle.said.specs.declared.Why.TheVariants.{Answered, Refused, Mistaken}
use Rattle.said.specs.declared.Said.{Said}

-- room for every answer that is made whole: all but listings, tables, and the parts and paths of a types.rdb. A line, and up to 1,024 of three numbers
abbrev pub answer_room : ℕ
answer_room = 65536

-- a line, and why it is said
pub record Saying : Type 0 where
  pub text : List ℕ
  pub why : Why

-- the line is at the front of the buffer, nothing else was changed, and r tells its length and why
pub record Says (x : Saying) (before : List ℕ) (r : Said) (after : List ℕ) : Type 0 where
  pub long : r.length ≡ length x.text
  pub why : r.why ≡ x.why
  pub stored : after ≡ sets before 0 x.text
  pub fits : r.length ≤ answer_room

abbrev pub saying : List ℕ → Why → Saying
saying text why = record { text = text; why = why }

abbrev pub mistaken : List ℕ → Saying
mistaken text = saying text Mistaken

unfoldable pub verdict_why : Result ℕ Refusal → Why
verdict_why (Ok n) = Answered
verdict_why (Err x) = Refused x

-- the line of a verdict, and why
unfoldable pub say_verdict : Result ℕ Refusal → Saying
say_verdict v = saying (line_of v) (verdict_why v)
