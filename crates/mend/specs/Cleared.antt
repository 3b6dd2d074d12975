-- A file with the descriptor pointers of some entries set to 0.
-- Assumes nothing.
use Rattle.std.specs.Prelude.{List, [], ◌∷◌, ℕ, ◌+◌, ◌-◌, ◌*◌}
use Rattle.std.proofs.lemmas.List.Edits.{sets}
use Rattle.number.specs.Limits.{entry_width}
use Rattle.number.specs.Number.{be}
use Rattle.mend.specs.Left.{Report, report}

-- an absent pointer
abbrev pub no_pointer : List ℕ
no_pointer = 0 ∷ 0 ∷ 0 ∷ 0 ∷ []

-- the descriptor pointer of the entry of index i of a directory at d, cleared
unfoldable pub clear : ℕ → ℕ → List ℕ → List ℕ
clear d i s = sets s (d + entry_width * (i - 1) + 24) no_pointer

unfoldable pub clear_all : ℕ → List Report → List ℕ → List ℕ
clear_all d [] s = s
clear_all d (report i n q ∷ rs) s = clear_all d rs (clear d i s)

-- of the entries that are reported
unfoldable pub cleared : List ℕ → List Report → List ℕ
cleared s rs = clear_all (be 4 s 24) rs s
