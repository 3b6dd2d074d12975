-- The listing of the marked file `nan`, computed.
-- Assumes nothing.
use mathlib.Core.Path.{◌≡◌, refl}
use lib.Ieee.{nan_bits}
use Rattle.number.specs.Choice.{when◌then◌else◌, ◌<?◌, ◌=?◌, ◌≠?◌}
use Rattle.number.specs.Number.{le}
use Rattle.number.specs.Scan.{scan}
use Rattle.number.specs.Part.{part}
use Rattle.key.specs.Word.{zero_byte, word_end, word_at}
use Rattle.signed.specs.Bits.{signed}
use Rattle.decimal.specs.Digits.{digits_within, digits_of}
use Rattle.text.specs.Hex.{hex_digit, hex_of}
use Rattle.text.specs.Signed.{signed_text}
use Rattle.rdb_map.specs.Map.{key_at}
use Rattle.rdb_record.specs.Constant.{value_size}
use Rattle.rdb_value.specs.Value.{float32, float64, value_of}
use Rattle.rdb_file.specs.File.{root_at, root_count}
use Rattle.rdb_path.specs.Path.{payload_at, joined}
use Rattle.rdb_list.specs.Listed.{path_to, value_in, constant_lines, entity_lines, group_lines, held_lines, list_of}
use Rattle.rdb_shown.specs.Texts.{value_text}
use Rattle.window.specs.Shown.{is_plain, byte_shown, bytes_shown}
use Rattle.rdb_line.specs.Text.{path_text, path_end, line_text, lines_text}
use Rattle.rdb_lines.specs.Rest.{paths_text}
use Rattle.rdb_marked.specs.Files.{nan}
use Rattle.rdb_marked.specs.Lines.{written, nan_lines}

pub listing : paths_text nan ≡ written nan_lines
unfolding paths_text lines_text line_text path_end path_text joined bytes_shown byte_shown is_plain value_text signed_text digits_of digits_within hex_of hex_digit list_of held_lines group_lines entity_lines constant_lines value_in path_to payload_at root_at root_count value_of float32 float64 nan_bits signed value_size key_at word_at word_end zero_byte part scan le when◌then◌else◌ ◌<?◌ ◌=?◌ ◌≠?◌ written nan_lines nan
listing = refl
