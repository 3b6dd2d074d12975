-- A file as libxpt writes it: one annotation of one byte, and right after it, at 33, a directory whose field says 34.
-- Assumes nothing.
use mathlib.Core.Path.{◌≡◌, refl}
use mathlib.Core.List.{List, [], ◌∷◌, ◌++◌}
use Prim.Native.Nat.{ℕ}
use Rattle.number.specs.Choice.{when◌then◌else◌, ◌<?◌, ◌=?◌, ◌≠?◌}
use Rattle.number.specs.Number.{be}
use Rattle.number.specs.Part.{part}
use Rattle.number.specs.Scan.{scan}
use Rattle.reading.specs.Got.{bad}
use Rattle.head.specs.Header.{magic, off_magic, magic_end, unknown_minor, length_fault, misplaced_pool, misplaced_directory, read_positions, read_fields, read_header}
use Rattle.reader.specs.Reader.Marked.{P2}
use Rattle.meaning.specs.Normal.BigEndian.{bytes_of}
use Rattle.genuine.specs.Start.{start_of, misplaced_start}
use Rattle.adopt.specs.Adopt.{gap_of, head_bytes, moved_bytes, adopted, fitted, moved_of, adopt_of}
use Rattle.adopt.specs.Theorems.{Adopts}

-- P2 so written
unfoldable pub genuine : List ℕ
genuine =
    magic
    ++ (0x01 ∷ 0x01 ∷ 0x00 ∷ 0x01 ∷ 0x00 ∷ 0x00 ∷ 0x00 ∷ 0x42 ∷ 0x00 ∷ 0x00 ∷ 0x00 ∷ 0x22 ∷ 0x00 ∷ 0x00 ∷ 0x00 ∷ 0x3d ∷ [])
    ++ (0x80 ∷ [])
    ++ (0x00 ∷ 0x00 ∷ 0x00 ∷ 0x00 ∷ 0x00 ∷ 0x00 ∷ 0x00 ∷ 0x00 ∷ 0x00 ∷ 0x00 ∷ 0x00 ∷ 0x00 ∷ 0x00 ∷ 0x00 ∷ 0x00 ∷ 0x00 ∷ [])
    ++ (0x00 ∷ 0x00 ∷ 0x00 ∷ 0x01 ∷ 0x00 ∷ 0x00 ∷ 0x00 ∷ 0x00 ∷ 0x00 ∷ 0x00 ∷ 0x00 ∷ 0x00 ∷ [])
    ++ (0x54 ∷ 0x61 ∷ 0x6e ∷ 0x6b ∷ 0x00 ∷ [])

-- the check refuses it,
pub genuine_refused : read_header genuine ≡ bad 8 24
unfolding genuine when◌then◌else◌ ◌<?◌ ◌=?◌ ◌≠?◌ be scan off_magic magic_end unknown_minor length_fault misplaced_pool misplaced_directory read_positions read_fields read_header
genuine_refused = refl

-- and adopting it gives P2
pub genuine_adopted : Adopts genuine P2
unfolding genuine P2 when◌then◌else◌ ◌<?◌ ◌=?◌ ◌≠?◌ be part bytes_of scan off_magic magic_end unknown_minor length_fault misplaced_pool misplaced_directory read_positions read_fields read_header start_of misplaced_start gap_of head_bytes moved_bytes adopted fitted moved_of adopt_of
genuine_adopted = refl
