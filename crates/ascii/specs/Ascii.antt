-- A quoted text as its bytes; for texts whose characters are ASCII.
-- Assumes nothing.
use Rattle.std.specs.Prelude.{List, [], ◌∷◌, ℕ, zero, suc}
use Prim.Native.Char.{code}
use Prim.Native.String.{String, len, char_at}

-- the codes of k characters from i on
abbrev codes_from : ℕ → ℕ → String → List ℕ
codes_from zero i s = []
codes_from (suc k) i s = code (char_at s i) ∷ codes_from k (suc i) s

abbrev pub ascii : String → List ℕ
ascii s = codes_from (len s) 0 s
