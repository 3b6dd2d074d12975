-- The lines that tell what normalising, adopting and linking answer.
-- Assumes nothing.
use Rattle.link.specs.declared.LinkRefusal.{LinkRefusal}
use Rattle.reading.specs.declared.Refusal.{Refusal}
use Rattle.std.specs.Prelude.{List, ◌++◌, ℕ, Err, Ok, Result}
use Rattle.decimal.specs.Digits.{digits_of}
use Rattle.text.specs.Line.{refused, space, line_of}
use Rattle.link.specs.declared.Which.{Which}
use Rattle.link.specs.declared.Which.TheVariants.{First, Second, Union}
use Rattle.said.specs.declared.Why.{Why}
use Rattle.said.specs.declared.Why.TheVariants.{Answered, Refused}
use Rattle.said.specs.Texts.{written, numbered, placed, refused_line}
use Rattle.said.specs.Saying.{Saying, saying}

-- `written LEN` or `refused NO PLACE`
unfoldable pub normalised_text : Result ℕ Refusal → List ℕ
normalised_text (Ok n) = numbered written n
normalised_text (Err why) = refused_line why

-- `written LEN accepted N` or `written LEN refused NO PLACE`: what the check says of what was written
unfoldable pub adopted_text : ℕ → Result ℕ Refusal → List ℕ
adopted_text n v = (written ++ digits_of n) ++ (space ++ line_of v)

-- 1 or 2 for a file's own refusal, 0 for the link's
unfoldable pub which_number : Which → ℕ
which_number First = 1
which_number Second = 2
which_number Union = 0

-- `written LEN` or `refused WHICH NO PLACE`
unfoldable pub linked_text : Result ℕ LinkRefusal → List ℕ
linked_text (Ok n) = numbered written n
linked_text (Err x) = (refused ++ digits_of (which_number x.which)) ++ placed space x.why

-- ---- each is a refusal, or else an answer

unfoldable pub normalised_why : Result ℕ Refusal → Why
normalised_why (Ok n) = Answered
normalised_why (Err x) = Refused x

unfoldable pub linked_why : Result ℕ LinkRefusal → Why
linked_why (Ok n) = Answered
linked_why (Err x) = Refused x.why

-- the commands normal, adopt and link; what was adopted is answered, whatever the check says of it
unfoldable pub say_normalised : Result ℕ Refusal → Saying
say_normalised a = saying (normalised_text a) (normalised_why a)

unfoldable pub say_adopted : Result ℕ Refusal → Result ℕ Refusal → Saying
say_adopted (Ok n) v = saying (adopted_text n v) Answered
say_adopted (Err x) v = say_normalised (Err x)

unfoldable pub say_linked : Result ℕ LinkRefusal → Saying
say_linked a = saying (linked_text a) (linked_why a)
