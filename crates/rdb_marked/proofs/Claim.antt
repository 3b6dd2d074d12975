-- The marked cases hold, all of them by one claim.
-- Assumes nothing.
use mathlib.Core.Path.{◌≡◌, refl}
use mathlib.Core.List.{map}
use lib.Ieee.{nan_bits}
use Rattle.number.specs.Choice.{when◌then◌else◌, ◌<?◌, ◌≤?◌, ◌=?◌, ◌≠?◌}
use Rattle.number.specs.Number.{le}
use Rattle.number.specs.Scan.{scan, some}
use Rattle.number.specs.Part.{part}
use Rattle.utf8.specs.Utf8.{lowest, highest, outside, off_second, off_tail, size_after, size_of, char_size}
use Rattle.reading.specs.Got.{next, many}
use Rattle.signed.specs.Bits.{signed}
use Rattle.key.specs.Word.{zero_byte, word_end, word_at, compare_words, is_same, same_word}
use Rattle.rdb_text.specs.Field.{byte_at, uint_of, uint, counted}
use Rattle.rdb_runs.specs.Bytes.{is_ascii, chars_end, is_utf8}
use Rattle.rdb_text.specs.Bytes.{suits}
use Rattle.rdb_text.specs.Text.{read_len, read_text, read_texts}
use Rattle.rdb_map.specs.Map.{entry_at, entry_payload, read_key, key_at, has_key_of, entries_before, stood_earlier, read_payload, read_entry, read_map}
use Rattle.rdb_record.specs.Notes.{read_notes}
use Rattle.rdb_record.specs.Enum.{read_member, read_enum}
use Rattle.rdb_record.specs.Constant.{value_size, no_boolean, read_stored, read_constant}
use Rattle.rdb_interface.specs.Interface.{read_base, read_sets, read_attribute, read_parameter, read_method, read_interface}
use Rattle.rdb_value.specs.Value.{float32, float64, value_of}
use Rattle.rdb_file.specs.Kind.{is_annotated, may_flag, is_reserved}
use Rattle.rdb_file.specs.Visit.{each, alone, visit_constant, visit_group, visit_module, visit_record, visit_with, visit_entity}
use Rattle.rdb_file.specs.File.{magic, off_magic, root_at, root_count, read_root, read_file, verdict_of}
use Rattle.rdb_path.specs.Path.{onto, cut, front, last, is_called, payload_at, payload_of, and_then, entity_in, entity_at, constant_in, constant_at}
use Rattle.rdb.specs.Questions.{entity_found, constant_said, constant_found, ask_entity, ask_constant}
use Rattle.rdb_places.specs.Lists.{enum_members, enum_notes, interface_bases, interface_optionals, interface_attributes, interface_methods, interface_notes, listed, enum_at, interface_at, group_notes_at, members_of, interface_list, notes_of, constant_count, entry_count}
use Rattle.rdb_parts.specs.Parts.{nth, text_at, member_said, member_note, base_said, base_note, attribute_said, attribute_get, attribute_set, attribute_note, parameter_said, method_said, method_parameter, method_exception, method_note, constant_notes, entry_said, entry_part, constant_note, entry_note, part_at, inner_at, part_found, said_of, ask_part, ask_inner}
use Rattle.rdb_marked.specs.Files.{office, empty, short, wrong, newer, past, typedef, above, reserved, accent, twice, sixteen, seventeen, readonly, annotated, nan}
use Rattle.rdb_marked.specs.Marked.{result_of, Case, at, checks, leads, kind_at, says, has, holds, part_of, inner_of, text, table}

pub claim : map (λ (c : Case). result_of c.reading c.file c.task) table ≡ map (λ (c : Case). c.result) table
unfolding has holds part_of inner_of text enum_members enum_notes interface_bases interface_optionals interface_attributes interface_methods interface_notes listed enum_at interface_at group_notes_at members_of interface_list notes_of constant_count entry_count nth text_at member_said member_note base_said base_note attribute_said attribute_get attribute_set attribute_note parameter_said method_said method_parameter method_exception method_note constant_notes entry_said entry_part constant_note entry_note part_at inner_at part_found said_of ask_part ask_inner office empty short wrong newer past typedef above reserved accent twice sixteen seventeen readonly annotated nan result_of at checks leads kind_at says table when◌then◌else◌ ◌<?◌ ◌≤?◌ ◌=?◌ ◌≠?◌ le scan some part lowest highest outside off_second off_tail size_after size_of char_size next many signed nan_bits zero_byte word_end word_at compare_words is_same same_word byte_at uint_of uint counted is_ascii chars_end is_utf8 suits read_len read_text read_texts entry_at entry_payload read_key key_at has_key_of entries_before stood_earlier read_payload read_entry read_map read_notes read_member read_enum value_size no_boolean read_stored read_constant read_base read_sets read_attribute read_parameter read_method read_interface float32 float64 value_of is_annotated may_flag is_reserved each alone visit_constant visit_group visit_module visit_record visit_with visit_entity magic off_magic root_at root_count read_root read_file verdict_of onto cut front last is_called payload_at payload_of and_then entity_in entity_at constant_in constant_at entity_found constant_said constant_found ask_entity ask_constant
claim = refl
