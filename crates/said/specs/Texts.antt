-- Words and lines that answers of every kind are said with, as ASCII codes, each line with its newline.
-- Assumes nothing.
use Rattle.std.specs.Prelude.{List, [], ◌∷◌, ◌++◌, ℕ, Err}
use Rattle.decimal.specs.Digits.{digits_of}
use Rattle.reading.specs.declared.Refusal.{Refusal}
use Rattle.text.specs.Line.{line_of, space, newline}

-- `found `, with its space
abbrev pub found : List ℕ
found = 102 ∷ 111 ∷ 117 ∷ 110 ∷ 100 ∷ 32 ∷ []

-- `none`
abbrev pub nothing : List ℕ
nothing = 110 ∷ 111 ∷ 110 ∷ 101 ∷ []

-- `undetermined `, with its space
abbrev pub undetermined : List ℕ
undetermined = 117 ∷ 110 ∷ 100 ∷ 101 ∷ 116 ∷ 101 ∷ 114 ∷ 109 ∷ 105 ∷ 110 ∷ 101 ∷ 100 ∷ 32 ∷ []

-- `written `, with its space
abbrev pub written : List ℕ
written = 119 ∷ 114 ∷ 105 ∷ 116 ∷ 116 ∷ 101 ∷ 110 ∷ 32 ∷ []

-- a word, a number and the newline
abbrev pub numbered : List ℕ → ℕ → List ℕ
numbered word n = (word ++ digits_of n) ++ newline

-- a word, a refusal's number, its place and the newline
abbrev pub placed : List ℕ → Refusal → List ℕ
placed word why = ((word ++ digits_of why.no) ++ (space ++ digits_of why.place)) ++ newline

-- `none`, with its newline
abbrev pub none_line : List ℕ
none_line = nothing ++ newline

-- `refused NO PLACE`
abbrev pub refused_line : Refusal → List ℕ
refused_line why = line_of (Err why)

-- `error `, with its space
abbrev pub error : List ℕ
error = 101 ∷ 114 ∷ 114 ∷ 111 ∷ 114 ∷ 32 ∷ []

-- `the index`
abbrev pub the_index : List ℕ
the_index = 116 ∷ 104 ∷ 101 ∷ 32 ∷ 105 ∷ 110 ∷ 100 ∷ 101 ∷ 120 ∷ []

-- `the slot`
abbrev pub the_slot : List ℕ
the_slot = 116 ∷ 104 ∷ 101 ∷ 32 ∷ 115 ∷ 108 ∷ 111 ∷ 116 ∷ []

-- ` is not decimal`, with its space
abbrev pub not_decimal : List ℕ
not_decimal = 32 ∷ 105 ∷ 115 ∷ 32 ∷ 110 ∷ 111 ∷ 116 ∷ 32 ∷ 100 ∷ 101 ∷ 99 ∷ 105 ∷ 109 ∷ 97 ∷ 108 ∷ []

-- ` does not fit 64 bits`, with its space
abbrev pub too_large : List ℕ
too_large = 32 ∷ 100 ∷ 111 ∷ 101 ∷ 115 ∷ 32 ∷ 110 ∷ 111 ∷ 116 ∷ 32 ∷ 102 ∷ 105 ∷ 116 ∷ 32 ∷ 54 ∷ 52 ∷ 32 ∷ 98 ∷ 105 ∷ 116 ∷ 115 ∷ []

-- `error the index is not decimal`, and the same of a slot or a position
abbrev pub not_decimal_mistake : List ℕ → List ℕ
not_decimal_mistake what = error ++ (what ++ (not_decimal ++ newline))

-- `error the index does not fit 64 bits`, and the same of a slot or a position
abbrev pub too_large_mistake : List ℕ → List ℕ
too_large_mistake what = error ++ (what ++ (too_large ++ newline))
