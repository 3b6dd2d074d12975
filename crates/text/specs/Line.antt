-- What is printed of a verdict, as ASCII codes: `accepted` and the number of interfaces, or `refused`, the refusal's number and its place; then a newline. And the marks that lines of every kind are put together with.
-- Assumes nothing.
use Rattle.reading.specs.declared.Refusal.{Refusal}
use Rattle.std.specs.Prelude.{List, [], ◌∷◌, ◌++◌, ℕ, Err, Ok, Result}
use Rattle.decimal.specs.Digits.{digits_of}

-- `accepted `, with its space
abbrev pub accepted : List ℕ
accepted = 97 ∷ 99 ∷ 99 ∷ 101 ∷ 112 ∷ 116 ∷ 101 ∷ 100 ∷ 32 ∷ []

-- `refused `, with its space
abbrev pub refused : List ℕ
refused = 114 ∷ 101 ∷ 102 ∷ 117 ∷ 115 ∷ 101 ∷ 100 ∷ 32 ∷ []

abbrev pub space : List ℕ
space = 32 ∷ []

-- `-`, before a number below zero, and for the default namespace
abbrev pub hyphen : List ℕ
hyphen = 45 ∷ []

abbrev pub newline : List ℕ
newline = 10 ∷ []

unfoldable pub line_of : Result ℕ Refusal → List ℕ
line_of (Ok n) = (accepted ++ digits_of n) ++ newline
line_of (Err why) = ((refused ++ digits_of why.no) ++ (space ++ digits_of why.place)) ++ newline
