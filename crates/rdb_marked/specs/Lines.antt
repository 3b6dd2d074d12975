-- The listing of the marked file `nan`, line by line.
-- Assumes nothing.
use Rattle.std.specs.Prelude.{List, [], ◌∷◌, ◌++◌, ℕ}
use Prim.Native.String.{String}
use Rattle.ascii.specs.Ascii.{ascii}
use Rattle.text.specs.Line.{newline}

unfoldable pub written : List String → List ℕ
written [] = []
written (x ∷ xs) = (ascii x ++ newline) ++ written xs

unfoldable pub nan_lines : List String
nan_lines = "E 7 25 a" ∷ "C float 7fa00001 a.n" ∷ []
