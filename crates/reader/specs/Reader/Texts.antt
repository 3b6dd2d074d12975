-- Request #103: a file that is signed with an umlaut; a text's length counts characters.
-- Assumes nothing.
use Rattle.std.specs.Prelude.{◌≡◌, refl, List, [], ◌∷◌, ◌++◌, ℕ}
use Rattle.number.specs.Choice.{when◌then◌else◌, ◌<?◌, ◌≤?◌, ◌=?◌, ◌≠?◌}
use Rattle.number.specs.Number.{be}
use Rattle.number.specs.Scan.{scan, some as one}
use Rattle.number.specs.Part.{part}
use Rattle.reading.specs.Got.{got, bad, next, many}
use Rattle.head.specs.Header.{magic, off_magic, magic_end, unknown_minor, length_fault, misplaced_pool, misplaced_directory, read_positions, read_fields, read_header}
use Rattle.head.specs.Annotation.{texts, read_text, read_body, read_annotation, annotations_within, read_annotations, annotation_limit}
use Rattle.directory.specs.Directory.{read_directory}
use Rattle.typelib.specs.Entry.{entries_of}
use Rattle.typelib.specs.Across.{repeated, first_repeated, circles, first_circling, read_across}
use Rattle.typelib.specs.Typelib.{typelib, pool_of, context_of, read_listed, read_front, read_descriptors, read_behind, read_typelib}
use Rattle.reader.specs.Reader.{decode}

-- no interfaces, and one annotation: a text that is said to have n characters, the bytes of ü, and an empty text
unfoldable pub signed : ℕ → List ℕ
signed n =
    magic
    ++ (0x01 ∷ 0x01 ∷ 0x00 ∷ 0x00 ∷ 0x00 ∷ 0x00 ∷ 0x00 ∷ 0x27 ∷ 0x00 ∷ 0x00 ∷ 0x00 ∷ 0x00 ∷ 0x00 ∷ 0x00 ∷ 0x00 ∷ 0x27 ∷ [])
    ++ (0x81 ∷ 0x00 ∷ n ∷ 0xc3 ∷ 0xbc ∷ 0x00 ∷ 0x00 ∷ [])

-- ü is one character
pub umlaut : decode (signed 1) ≡ got (typelib (record { minor = 1; count = 0; directory = 0; pool = 39 }) (texts (0xc3 ∷ 0xbc ∷ []) [] ∷ []) []) 39
unfolding signed decode when◌then◌else◌ ◌<?◌ ◌≤?◌ ◌=?◌ ◌≠?◌ be scan one part next many off_magic magic_end unknown_minor length_fault misplaced_pool misplaced_directory read_positions read_fields read_header read_text read_body read_annotation annotations_within read_annotations annotation_limit read_directory entries_of repeated first_repeated circles first_circling read_across pool_of context_of read_listed read_front read_descriptors read_behind read_typelib
umlaut = refl

-- and not two: with the zero byte after it as the second, the other text has no length
pub umlaut_twice : decode (signed 2) ≡ bad 9 32
unfolding signed decode when◌then◌else◌ ◌<?◌ ◌≤?◌ ◌=?◌ ◌≠?◌ be scan part next many off_magic magic_end unknown_minor length_fault misplaced_pool misplaced_directory read_positions read_fields read_header read_text read_body read_annotation annotations_within read_annotations annotation_limit read_listed read_front read_typelib
umlaut_twice = refl
