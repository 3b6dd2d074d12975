-- The definitions, computed.
-- Assumes nothing.
use mathlib.Core.Path.{◌≡◌, refl}
use mathlib.Core.List.{List, [], ◌∷◌, ◌++◌}
use Prim.Native.Nat.{ℕ}
use Rattle.number.specs.Choice.{when◌then◌else◌, ◌<?◌, ◌=?◌}
use Rattle.number.specs.Scan.{scan, some}
use Rattle.number.specs.Part.{part}
use Rattle.key.specs.Word.{compare_words, is_same, same_word}
use Rattle.kept.specs.Names.{name_in, state_in, is_kept, row_of}
use Rattle.kept.specs.Room.{nothing_kept, with_room}
use Rattle.kept.specs.Files.{bytes_in, is_found, file_of, kept_file}
use Rattle.paths.specs.Path.{last_within, last_part, ending}
use Rattle.kept.specs.Written.{same_ending, may_lead, forgotten}

-- `d/a`, `a`, `d/`, and no bytes
parts : last_part (100 ∷ 47 ∷ 97 ∷ []) ∷ last_part (97 ∷ []) ∷ last_part (100 ∷ 47 ∷ []) ∷ last_part [] ∷ [] ≡ 2 ∷ 0 ∷ 2 ∷ 0 ∷ []
unfolding last_part last_within when◌then◌else◌ ◌=?◌
parts = refl

-- the names `a`, `d/a`, `b`, and the symbolic link `l`, each before one byte
store : List ℕ
store = 97 ∷ 1 ∷ 100 ∷ 47 ∷ 97 ∷ 2 ∷ 98 ∷ 3 ∷ 108 ∷ 4 ∷ []

table : List ℕ
table = 0 ∷ 1 ∷ 2 ∷ 0 ∷ 2 ∷ 5 ∷ 6 ∷ 0 ∷ 6 ∷ 7 ∷ 8 ∷ 0 ∷ 8 ∷ 9 ∷ 10 ∷ 1 ∷ []

-- `a`, `d/a`, `b`, `l`, `d`
places : List ℕ → List ℕ
places rows = row_of (97 ∷ []) rows store 4 ∷ row_of (100 ∷ 47 ∷ 97 ∷ []) rows store 4 ∷ row_of (98 ∷ []) rows store 4 ∷ row_of (108 ∷ []) rows store 4 ∷ row_of (100 ∷ []) rows store 4 ∷ []

found : places table ≡ 0 ∷ 1 ∷ 2 ∷ 3 ∷ 4 ∷ []
unfolding places store table row_of scan is_kept state_in name_in part same_word is_same compare_words when◌then◌else◌ ◌=?◌ ◌<?◌
found = refl

-- the bytes of `d/a`; no file is kept as `d`
bytes : kept_file (100 ∷ 47 ∷ 97 ∷ []) (record { rows = 4; used = 10 }) table store ++ kept_file (100 ∷ []) (record { rows = 4; used = 10 }) table store ≡ 2 ∷ []
unfolding store table kept_file file_of bytes_in is_found some row_of scan is_kept state_in name_in part same_word is_same compare_words when◌then◌else◌ ◌=?◌ ◌<?◌
bytes = refl

-- `e/a` was written: of the others only `b` is still found
written : places (forgotten (101 ∷ 47 ∷ 97 ∷ []) table store 4) ≡ 4 ∷ 4 ∷ 2 ∷ 4 ∷ 4 ∷ []
unfolding places store table row_of scan is_kept state_in name_in part same_word is_same compare_words forgotten may_lead same_ending ending last_part last_within when◌then◌else◌ ◌=?◌ ◌<?◌
written = refl

-- two of the largest files leave room for a third, not for two more; 64 rows for none
room : with_room (record { rows = 2; used = 2105344 }) 1 ≡ record { rows = 2; used = 2105344 }
unfolding with_room when◌then◌else◌ ◌<?◌
room = refl

no_room : with_room (record { rows = 2; used = 2105344 }) 2 ≡ nothing_kept
unfolding with_room when◌then◌else◌ ◌<?◌
no_room = refl

no_rows_lem : with_room (record { rows = 64; used = 640 }) 1 ≡ nothing_kept
unfolding with_room when◌then◌else◌ ◌<?◌
no_rows_lem = refl
