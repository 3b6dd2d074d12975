-- The marked files are salvaged as the table says, all of them by one claim.
-- Assumes nothing.
use mathlib.Core.Path.{◌≡◌, refl}
use mathlib.Core.List.{map}
use mathlib.Core.Option.{some}
use Rattle.number.specs.Choice.{when◌then◌else◌, ◌<?◌, ◌≤?◌, ◌=?◌, ◌≠?◌}
use Rattle.number.specs.Number.{be}
use Rattle.number.specs.Scan.{scan, some as one, tally}
use Rattle.number.specs.Part.{part}
use Rattle.reading.specs.Got.{next, many, byte, field}
use Rattle.key.specs.Word.{zero_byte, word_end, word_at, compare_words, is_same, same_word}
use Rattle.key.specs.Key.{then_by, compare_keys, same_key}
use Rattle.key.specs.First.{same_as, first_same}
use Rattle.name.specs.Name.{is_identifier, read_identifier, follow, follow_space, read_name}
use Rattle.head.specs.Header.{off_magic, magic_end, unknown_minor, length_fault, misplaced_pool, misplaced_directory, read_positions, read_fields, read_header}
use Rattle.head.specs.Annotation.{read_text, read_body, read_annotation, annotations_within, read_annotations, annotation_limit}
use Rattle.directory.specs.Directory.{falls, out_of_order, lacks_iid, read_row, read_directory}
use Rattle.types.specs.Types.{prefix, class_of, is_reserved, needs_pointer, lacks_pointer, read_index, read_rest, type_with, read_array, read_type}
use Rattle.method.specs.Parameter.{param_flags, param_type, reserved_param, wrong_param, read_param}
use Rattle.method.specs.Numbers.{prefixes, wrong_iid, wrong_size, wrong_sizes, wrong_numbers, wrong_arguments, wrong_result}
use Rattle.method.specs.Method.{method_flags, method_name, rule_signature, read_signature, read_method, no_method}
use Rattle.descriptor.specs.Constant.{value_size, read_constant}
use Rattle.descriptor.specs.Rules.{is_constructor, many_constructors, is_getter, is_setter, stray_pair, stray_getter, stray_pairs}
use Rattle.descriptor.specs.Descriptor.{parent_of, indexed, read_parent, read_counted, reserved_interface, read_flags, flags_in, names_in, read_descriptor}
use Rattle.typelib.specs.Entry.{entry_key, entry_descriptor, read_own, entries_of, no_entry, keys_in, descriptor_in}
use Rattle.typelib.specs.Across.{repeated, first_repeated, parent_index, above, above_in}
use Rattle.typelib.specs.Typelib.{pool_of, context_of, read_listed, read_front}
use Rattle.bridge.specs.Span.{span}
use Rattle.reader.specs.Reader.Marked.{P3, says3}
use Rattle.mend.specs.Cycle.{back_after, returns}
use Rattle.mend.specs.Left.{own_read, left_of, readable, on_cycle, opened, left_at, left_in, left, fault_of, report_of, prepend, present, reports_of, left_behind, behind_front, read_left}
use Rattle.salvage_marked.specs.Marked.{own_parent, no_parent, no_type, reserved_flags, leads_out, unresolved_a, Case, table, told}

pub claim : map (λ (c : Case). told (read_left c.file)) table ≡ map (λ (c : Case). some (left c.kept c.reports)) table
unfolding table told own_parent no_parent no_type reserved_flags leads_out unresolved_a P3 says3 when◌then◌else◌ ◌<?◌ ◌≤?◌ ◌=?◌ ◌≠?◌ be scan one tally part next many byte field zero_byte word_end word_at compare_words is_same same_word then_by compare_keys same_key same_as first_same is_identifier read_identifier follow follow_space read_name off_magic magic_end unknown_minor length_fault misplaced_pool misplaced_directory read_positions read_fields read_header read_text read_body read_annotation annotations_within read_annotations annotation_limit falls out_of_order lacks_iid read_row read_directory prefix class_of is_reserved needs_pointer lacks_pointer read_index read_rest type_with read_array read_type param_flags param_type reserved_param wrong_param read_param prefixes wrong_iid wrong_size wrong_sizes wrong_numbers wrong_arguments wrong_result method_flags method_name rule_signature read_signature read_method no_method value_size read_constant is_constructor many_constructors is_getter is_setter stray_pair stray_getter stray_pairs parent_of indexed read_parent read_counted reserved_interface read_flags flags_in names_in read_descriptor entry_key entry_descriptor read_own entries_of no_entry keys_in descriptor_in repeated first_repeated parent_index above above_in pool_of context_of read_listed read_front span back_after returns own_read left_of readable on_cycle opened left_at left_in fault_of report_of prepend present reports_of left_behind behind_front read_left
claim = refl
