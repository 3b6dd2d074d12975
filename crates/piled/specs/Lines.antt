-- The line that tells what a pile answers.
-- Assumes nothing.
use Rattle.std.specs.Prelude.{List, ◌++◌, ℕ}
use Rattle.ascii.specs.Ascii.{ascii}
use Rattle.decimal.specs.Digits.{digits_of}
use Rattle.text.specs.Line.{refused, space, newline}
use Rattle.said.specs.declared.Why.TheVariants as why
use Rattle.said.specs.Texts.{numbered, written}
use Rattle.said.specs.Saying.{Saying, saying, mistaken}
use Rattle.outcomes.specs.Lines.{which_number}
use Rattle.tasks.specs.declared.Mistake.TheVariants.{Files}
use Rattle.tasks.specs.Mistakes.{mistake_text}
use Rattle.pile.specs.declared.PileRefusal.{PileRefusal}
use Rattle.pile.specs.declared.Added.{Added}
use Rattle.pile.specs.declared.Added.TheVariants.{Grown, Refused, Full}

-- `refused WHICH NO PLACE step S`
unfoldable pub refused_text : PileRefusal → List ℕ
refused_text x =
    ((((refused ++ digits_of (which_number x.why.which)) ++ (space ++ digits_of x.why.why.no)) ++ (space ++ digits_of x.why.why.place))
    ++ (ascii " step " ++ digits_of x.step))
    ++ newline

-- that, or `written LEN`; a file too many is a mistake
unfoldable pub say_piled : Added → Saying
say_piled (Grown p) = saying (numbered written p.length) why.Answered
say_piled (Refused x) = saying (refused_text x) (why.Refused x.why.why)
say_piled Full = mistaken (mistake_text Files)
