-- Document 01, "Marked cases" P1 to P11, the second file of P13, and P3 with minor 2, as one table, proved by one claim.
-- Assumes nothing.
use Rattle.reading.specs.declared.Refusal.{Refusal}
use Rattle.std.specs.Prelude.{◌≡◌, refl, List, [], ◌∷◌, ◌++◌, map, ℕ, get_or, take, set, Err, Ok, Result}
use Rattle.std.proofs.Common.{ap}
use Rattle.std.proofs.Math.Option.{none, some}
use Rattle.number.specs.Choice.{when◌then◌else◌, ◌<?◌, ◌≤?◌, ◌=?◌, ◌≠?◌}
use Rattle.number.specs.Number.{be}
use Rattle.number.specs.Scan.{scan, some as one, tally}
use Rattle.number.specs.Part.{part}
use Rattle.reading.specs.Got.{Got, got, bad, next, many, byte, field}
use Rattle.key.specs.Word.{zero_byte, word_end, word_at, compare_words, is_same, same_word}
use Rattle.key.specs.Key.{key, then_by, compare_keys, same_key}
use Rattle.key.specs.First.{same_as, first_same}
use Rattle.name.specs.Name.{is_identifier, read_identifier, follow, follow_space, read_name}
use Rattle.head.specs.Header.{magic, off_magic, magic_end, unknown_minor, length_fault, misplaced_pool, misplaced_directory, read_positions, read_fields, read_header}
use Rattle.head.specs.Annotation.{empty, read_text, read_body, read_annotation, annotations_within, read_annotations, annotation_limit}
use Rattle.directory.specs.Directory.{falls, out_of_order, lacks_iid, read_row, read_directory}
use Rattle.types.specs.Types.{prefix, class_of, is_reserved, needs_pointer, lacks_pointer, read_index, read_rest, type_with, read_array, read_type}
use Rattle.method.specs.Parameter.{param_flags, param_type, reserved_param, wrong_param, read_param}
use Rattle.method.specs.Numbers.{prefixes, wrong_iid, wrong_size, wrong_sizes, wrong_numbers, wrong_arguments, wrong_result}
use Rattle.method.specs.Method.{method_flags, method_name, rule_signature, read_signature, read_method, no_method}
use Rattle.descriptor.specs.Constant.{constant, value_size, read_constant}
use Rattle.descriptor.specs.Rules.{is_constructor, many_constructors, is_getter, is_setter, stray_pair, stray_getter, stray_pairs}
use Rattle.descriptor.specs.Descriptor.{descriptor, parent_of, indexed, read_parent, read_counted, reserved_interface, read_flags, flags_in, names_in, read_descriptor}
use Rattle.typelib.specs.Entry.{entry, entry_key, entry_descriptor, read_own, entries_of, no_entry, keys_in, descriptor_in}
use Rattle.typelib.specs.Across.{repeated, first_repeated, parent_index, above, above_in, chain_ends, circles, first_circling, read_across}
use Rattle.typelib.specs.Typelib.{Typelib, typelib, pool_of, context_of, read_listed, read_front, read_descriptors, header_of, read_behind, read_typelib, verdict_of}
use Rattle.reader.specs.Reader.{decode, check_of}

-- ---- the files

unfoldable pub P1 : List ℕ
P1 =
    magic
    ++ (0x01 ∷ 0x01 ∷ 0x00 ∷ 0x00 ∷ 0x00 ∷ 0x00 ∷ 0x00 ∷ 0x24 ∷ 0x00 ∷ 0x00 ∷ 0x00 ∷ 0x00 ∷ 0x00 ∷ 0x00 ∷ 0x00 ∷ 0x24 ∷ [])
    ++ (0x80 ∷ 0x00 ∷ 0x00 ∷ 0x00 ∷ [])

unfoldable pub P2 : List ℕ
P2 =
    magic
    ++ (0x01 ∷ 0x01 ∷ 0x00 ∷ 0x01 ∷ 0x00 ∷ 0x00 ∷ 0x00 ∷ 0x45 ∷ 0x00 ∷ 0x00 ∷ 0x00 ∷ 0x24 ∷ 0x00 ∷ 0x00 ∷ 0x00 ∷ 0x40 ∷ [])
    ++ (0x80 ∷ 0x00 ∷ 0x00 ∷ 0x00 ∷ [])
    ++ (0x00 ∷ 0x00 ∷ 0x00 ∷ 0x00 ∷ 0x00 ∷ 0x00 ∷ 0x00 ∷ 0x00 ∷ 0x00 ∷ 0x00 ∷ 0x00 ∷ 0x00 ∷ 0x00 ∷ 0x00 ∷ 0x00 ∷ 0x00 ∷ [])
    ++ (0x00 ∷ 0x00 ∷ 0x00 ∷ 0x01 ∷ 0x00 ∷ 0x00 ∷ 0x00 ∷ 0x00 ∷ 0x00 ∷ 0x00 ∷ 0x00 ∷ 0x00 ∷ [])
    ++ (0x54 ∷ 0x61 ∷ 0x6e ∷ 0x6b ∷ 0x00 ∷ [])

unfoldable pub P3 : List ℕ
P3 =
    magic
    ++ (0x01 ∷ 0x01 ∷ 0x00 ∷ 0x01 ∷ 0x00 ∷ 0x00 ∷ 0x00 ∷ 0x52 ∷ 0x00 ∷ 0x00 ∷ 0x00 ∷ 0x24 ∷ 0x00 ∷ 0x00 ∷ 0x00 ∷ 0x40 ∷ [])
    ++ (0x80 ∷ 0x00 ∷ 0x00 ∷ 0x00 ∷ [])
    ++ (0x00 ∷ 0x00 ∷ 0x00 ∷ 0x00 ∷ 0x00 ∷ 0x00 ∷ 0x00 ∷ 0x00 ∷ 0x00 ∷ 0x00 ∷ 0x00 ∷ 0x00 ∷ 0x00 ∷ 0x00 ∷ 0x00 ∷ 0x01 ∷ [])
    ++ (0x00 ∷ 0x00 ∷ 0x00 ∷ 0x01 ∷ 0x00 ∷ 0x00 ∷ 0x00 ∷ 0x00 ∷ 0x00 ∷ 0x00 ∷ 0x00 ∷ 0x03 ∷ [])
    ++ (0x41 ∷ 0x00 ∷ 0x00 ∷ 0x00 ∷ 0x00 ∷ 0x00 ∷ 0x00 ∷ 0x01 ∷ 0x00 ∷ 0x00 ∷ 0x00 ∷ 0x11 ∷ 0x01 ∷ 0xff ∷ 0xfe ∷ 0x80 ∷ 0x4b ∷ 0x00 ∷ [])

-- the first 81 bytes of P3
pub P4 : List ℕ
P4 = take 81 P3

-- minor 3
pub P5 : List ℕ
P5 = set P3 17 3

-- 31 bytes of P1
pub P6 : List ℕ
P6 = take 31 P1

-- parent 1
pub P7 : List ℕ
P7 = set P3 67 1

-- parent 2
pub P8 : List ℕ
P8 = set P3 67 2

-- constant type 03
pub P9 : List ℕ
P9 = set P3 76 0x03

-- last flags 81
pub P10 : List ℕ
P10 = set P3 79 0x81

-- zero IID
pub P11 : List ℕ
P11 = set P3 51 0

-- P3 whose value is fffd
unfoldable pub P13 : List ℕ
P13 = set P3 78 0xfd

-- P3 with minor 2
unfoldable pub P3newer : List ℕ
P3newer = set P3 17 2

-- ---- what they say

-- n = 0; the annotation is tag 0, marked last
unfoldable pub says1 : Typelib
says1 = typelib (record { minor = 1; count = 0; directory = 0; pool = 36 }) (empty ∷ []) []

unfoldable pub says2 : Typelib
says2 = typelib (record { minor = 1; count = 1; directory = 36; pool = 64 }) (empty ∷ []) (entry (key [] (0x54 ∷ 0x61 ∷ 0x6e ∷ 0x6b ∷ [])) 0 none ∷ [])

-- an interface A of IID 1, without parent or methods, scriptable, with the constant K of type 1 and value fffe
unfoldable pub says3 : Typelib
says3 =
    typelib (record { minor = 1; count = 1; directory = 36; pool = 64 }) (empty ∷ [])
    (entry (key [] (0x41 ∷ [])) 1 (some (descriptor none [] (constant (0x4b ∷ []) 1 0xfffe ∷ []) 0x80)) ∷ [])

-- the same with the value fffd
unfoldable pub says13 : Typelib
says13 =
    typelib (record { minor = 1; count = 1; directory = 36; pool = 64 }) (empty ∷ [])
    (entry (key [] (0x41 ∷ [])) 1 (some (descriptor none [] (constant (0x4b ∷ []) 1 0xfffd ∷ []) 0x80)) ∷ [])

-- what P3 says, with minor 2
unfoldable pub says3newer : Typelib
says3newer =
    typelib (record { minor = 2; count = 1; directory = 36; pool = 64 }) (empty ∷ [])
    (entry (key [] (0x41 ∷ [])) 1 (some (descriptor none [] (constant (0x4b ∷ []) 1 0xfffe ∷ []) 0x80)) ∷ [])

-- ---- the table

-- a file, and what it decodes to or its refusal
pub record Case : Type 0 where
  pub file : List ℕ
  pub decoded : Got Typelib

unfoldable pub table : List Case
table =
    record { file = P1; decoded = got says1 36 }
    ∷ record { file = P2; decoded = got says2 69 }
    ∷ record { file = P3; decoded = got says3 82 }
    ∷ record { file = P4; decoded = bad 29 20 }
    ∷ record { file = P5; decoded = bad 5 17 }
    ∷ record { file = P6; decoded = bad 1 31 }
    ∷ record { file = P7; decoded = bad 19 36 }
    ∷ record { file = P8; decoded = bad 15 66 }
    ∷ record { file = P9; decoded = bad 16 76 }
    ∷ record { file = P10; decoded = bad 14 79 }
    ∷ record { file = P11; decoded = bad 12 60 }
    ∷ record { file = P13; decoded = got says13 82 }
    ∷ record { file = P3newer; decoded = got says3newer 82 }
    ∷ []

pub marked : map (λ (c : Case). decode c.file) table ≡ map (λ (c : Case). c.decoded) table
unfolding table P1 P2 P3 P4 P5 P6 P7 P8 P9 P10 P11 P13 P3newer says1 says2 says3 says13 says3newer decode when◌then◌else◌ ◌<?◌ ◌≤?◌ ◌=?◌ ◌≠?◌ be scan one tally part next many byte field zero_byte word_end word_at compare_words is_same same_word then_by compare_keys same_key same_as first_same is_identifier read_identifier follow follow_space read_name off_magic magic_end unknown_minor length_fault misplaced_pool misplaced_directory read_positions read_fields read_header read_text read_body read_annotation annotations_within read_annotations annotation_limit falls out_of_order lacks_iid read_row read_directory prefix class_of is_reserved needs_pointer lacks_pointer read_index read_rest type_with read_array read_type param_flags param_type reserved_param wrong_param read_param prefixes wrong_iid wrong_size wrong_sizes wrong_numbers wrong_arguments wrong_result method_flags method_name rule_signature read_signature read_method no_method value_size read_constant is_constructor many_constructors is_getter is_setter stray_pair stray_getter stray_pairs parent_of indexed read_parent read_counted reserved_interface read_flags flags_in names_in read_descriptor entry_key entry_descriptor read_own entries_of no_entry keys_in descriptor_in repeated first_repeated parent_index above above_in chain_ends circles first_circling read_across pool_of context_of read_listed read_front read_descriptors header_of read_behind read_typelib verdict_of
marked = refl

-- what the k-th file of the table decodes to, counted from 0
decodes_to : (k : ℕ) → get_or (map (λ (c : Case). decode c.file) table) k (bad 0 0) ≡ get_or (map (λ (c : Case). c.decoded) table) k (bad 0 0)
decodes_to k = ap (λ (gs : List (Got Typelib)). get_or gs k (bad 0 0)) marked

pub decodes1 : decode P1 ≡ got says1 36
unfolding table
decodes1 = decodes_to 0

pub decodes2 : decode P2 ≡ got says2 69
unfolding table
decodes2 = decodes_to 1

pub decodes3 : decode P3 ≡ got says3 82
unfolding table
decodes3 = decodes_to 2

pub decodes13 : decode P13 ≡ got says13 82
unfolding table
decodes13 = decodes_to 11

pub decodes3newer : decode P3newer ≡ got says3newer 82
unfolding table
decodes3newer = decodes_to 12

-- the same as answers of the check
abbrev refused : ℕ → ℕ → Result ℕ Refusal
refused n q = Err (record { no = n; place = q })

unfoldable pub verdicts : List (Result ℕ Refusal)
verdicts = Ok 0 ∷ Ok 1 ∷ Ok 1 ∷ refused 29 20 ∷ refused 5 17 ∷ refused 1 31 ∷ refused 19 36 ∷ refused 15 66 ∷ refused 16 76 ∷ refused 14 79 ∷ refused 12 60 ∷ Ok 1 ∷ Ok 1 ∷ []

pub answers : map (λ (c : Case). check_of c.file) table ≡ verdicts
unfolding table verdicts says1 says2 says3 says13 says3newer check_of verdict_of header_of
answers = ap (map verdict_of) marked
