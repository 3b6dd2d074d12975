-- Document 02, #110: document 01's marked files with a bad descriptor, what is left of each and what is reported.
-- Assumes nothing.
use Rattle.std.specs.Prelude.{List, [], ◌∷◌, ℕ, set}
use Rattle.std.proofs.Math.Option.{Option, none, some}
use Rattle.reading.specs.Got.{Got, got, bad}
use Rattle.key.specs.Key.{key}
use Rattle.head.specs.Annotation.{empty}
use Rattle.typelib.specs.Entry.{entry}
use Rattle.typelib.specs.Typelib.{Typelib, typelib}
use Rattle.reader.specs.Reader.Marked.{P3, says3}
use Rattle.mend.specs.Left.{Report, report, Left}

-- P7 to P10: its own parent, a parent that there is not, a constant's type, reserved flags; and a descriptor pointer that leads out
unfoldable pub own_parent : List ℕ
own_parent = set P3 67 1

unfoldable pub no_parent : List ℕ
no_parent = set P3 67 2

unfoldable pub no_type : List ℕ
no_type = set P3 76 0x03

unfoldable pub reserved_flags : List ℕ
reserved_flags = set P3 79 0x81

unfoldable pub leads_out : List ℕ
leads_out = set P3 62 1

-- the interface A with its IID 1, unresolved
unfoldable pub unresolved_a : Typelib
unresolved_a = typelib (record { minor = 1; count = 1; directory = 36; pool = 64 }) (empty ∷ []) (entry (key [] (0x41 ∷ [])) 1 none ∷ [])

-- a file, what is left of it, and what is reported
pub record Case : Type 0 where
  pub file : List ℕ
  pub kept : Typelib
  pub reports : List Report

unfoldable pub table : List Case
table =
    record { file = P3; kept = says3; reports = [] }
    ∷ record { file = own_parent; kept = unresolved_a; reports = report 1 19 36 ∷ [] }
    ∷ record { file = no_parent; kept = unresolved_a; reports = report 1 15 66 ∷ [] }
    ∷ record { file = no_type; kept = unresolved_a; reports = report 1 16 76 ∷ [] }
    ∷ record { file = reserved_flags; kept = unresolved_a; reports = report 1 14 79 ∷ [] }
    ∷ record { file = leads_out; kept = unresolved_a; reports = report 1 13 60 ∷ [] }
    ∷ []

unfoldable pub told : Got Left → Option Left
told (got l e) = some l
told (bad n q) = none
