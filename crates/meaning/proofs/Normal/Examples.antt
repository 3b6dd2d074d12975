-- Document 01, "Marked cases": P1, P2 and P3 are the plain forms of their meanings.
-- Assumes nothing.
use mathlib.Core.Path.{◌≡◌, refl}
use mathlib.Core.List.{[], ◌∷◌}
use mathlib.Core.Option.{none, some}
use Rattle.number.specs.Choice.{when◌then◌else◌, ◌=?◌}
use Rattle.key.specs.Key.{Key, key}
use Rattle.reader.specs.Values.{simple, param, signature, method, constant, descriptor, methods_of, Entry, entry, entry_descriptor}
use Rattle.reader.specs.Reader.Marked.{P1, P2, P3}
use Rattle.meaning.specs.Index.{keys_of, index_of}
use Rattle.meaning.specs.Facts.Conditions.{any_of}
use Rattle.meaning.specs.Normal.BigEndian.{bytes_of}
use Rattle.meaning.specs.Normal.Size.{sum, value_width, constant_size, descriptor_size, name_size, method_name_size, constant_name, constant_name_size, names_size, space_size, own_size, entry_size, entry_length, plain_length}
use Rattle.meaning.specs.Normal.Record.{run, name_after, methods_bytes, constant_bytes, constants_bytes, parent_number, constants_from, descriptor_bytes, name_bytes, constant_name_bytes, names_bytes}
use Rattle.meaning.specs.Normal.Minor.{new_descriptor, new_own, new_entry, minor_of}
use Rattle.meaning.specs.Normal.Normal.{space_from, own_from, names_from, space_bytes, own_bytes, entry_pool, pool_bytes, space_pointer, own_pointer, entry_bytes, directory_bytes, normal_header, header_bytes, note_bytes, plain_bytes, plain_form}

-- the entry of P2
unfoldable pub tank : Entry Key
tank = entry (key [] (0x54 ∷ 0x61 ∷ 0x6e ∷ 0x6b ∷ [])) 0 none

-- the entry of P3
unfoldable pub with_constant : Entry Key
with_constant = entry (key [] (0x41 ∷ [])) 1 (some (descriptor none [] (constant (0x4b ∷ []) 1 0xfffe ∷ []) 0x80))

-- an interface A of IID 1 with a method m, not-XPCOM, whose result is a utf8string
unfoldable pub with_string : Entry Key
with_string = entry (key [] (0x41 ∷ [])) 1 (some (descriptor none (method 0x20 (0x6d ∷ []) (signature [] (param 0 (simple 0x97))) ∷ []) [] 0x80))

pub marked : (plain_form [] ≡ P1) × (plain_form (tank ∷ []) ≡ P2) × (plain_form (with_constant ∷ []) ≡ P3)
unfolding P1 P2 P3 tank with_constant when◌then◌else◌ ◌=?◌ keys_of index_of bytes_of sum value_width constant_size descriptor_size name_size method_name_size constant_name constant_name_size names_size space_size own_size entry_size entry_length plain_length run name_after methods_bytes constant_bytes constants_bytes parent_number constants_from descriptor_bytes name_bytes constant_name_bytes names_bytes space_from own_from names_from space_bytes own_bytes entry_pool pool_bytes space_pointer own_pointer entry_bytes directory_bytes any_of entry_descriptor methods_of new_descriptor new_own new_entry minor_of normal_header header_bytes note_bytes plain_bytes plain_form
marked = (refl, refl, refl)
