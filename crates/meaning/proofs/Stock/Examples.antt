-- Worked examples: P1, P2 and P3 are unchanged by storing each name once, and what it makes of names used several times.
-- Assumes nothing.
use mathlib.Core.Path.{◌≡◌, refl}
use mathlib.Core.List.{List, [], ◌∷◌, ◌++◌, map}
use mathlib.Core.Option.{none, some}
use Prim.Native.Nat.{ℕ, ◌+◌}
use Rattle.number.specs.Choice.{when◌then◌else◌, ◌<?◌, ◌≤?◌, ◌=?◌}
use Rattle.number.specs.Scan.{scan}
use Rattle.key.specs.Word.{compare_words, is_same}
use Rattle.key.specs.Key.{Key, key, then_by, compare_keys, same_key}
use Rattle.key.specs.First.{same_as, first_same}
use Rattle.reader.specs.Values.{simple, param, param_type, signature, Method, method, method_name, constant, constant_name, descriptor, methods_of, Entry, entry, entry_descriptor}
use Rattle.reader.specs.Records.{magic}
use Rattle.reader.specs.Reader.Marked.{P1, P2, P3}
use Rattle.meaning.specs.Index.{keys_of, index_of}
use Rattle.meaning.specs.Facts.Conditions.{any_of}
use Rattle.meaning.specs.Normal.BigEndian.{bytes_of}
use Rattle.meaning.specs.Normal.Size.{sum, type_size, param_size, method_size, value_width, constant_size, descriptor_size, name_size}
use Rattle.meaning.specs.Normal.Record.{run, type_bytes, param_bytes, method_bytes, constant_bytes, parent_number, name_bytes}
use Rattle.meaning.specs.Normal.Minor.{prefixes_of, params_of, new_tag, new_prefix, new_type, new_param, new_method, new_descriptor, new_own, new_entry, minor_of}
use Rattle.meaning.specs.Normal.Normal.{space_pointer, own_pointer, normal_header, header_bytes, note_bytes}
use Rattle.meaning.proofs.Normal.Examples.{tank, with_constant}
use Rattle.meaning.specs.Stock.Uses.{names_of, own_words, space_words, key_words, entry_words, words_of, first_use, at_first, kept_size, stored_size, stock_size, own_body, body_length, normal_length}
use Rattle.meaning.specs.Stock.Pool.{own_pieces, entry_pieces, pieces_of, words_in, pool_size, offset, once_at}
use Rattle.meaning.specs.Stock.Form.{run_from, methods_with, constants_with, descriptor_with, kept_bytes, pool_with, own_after, entry_with, directory_with, length_with, file_with, normal_form}

-- ---- the marked cases: no name is used twice

pub marked : (normal_form [] ≡ P1) × (normal_form (tank ∷ []) ≡ P2) × (normal_form (with_constant ∷ []) ≡ P3)
unfolding P1 P2 P3 tank with_constant when◌then◌else◌ ◌<?◌ ◌=?◌ scan is_same compare_words then_by compare_keys same_key same_as first_same keys_of index_of bytes_of sum value_width constant_size descriptor_size name_size constant_bytes parent_number name_bytes constant_name any_of entry_descriptor methods_of new_descriptor new_own new_entry minor_of space_pointer own_pointer normal_header header_bytes note_bytes names_of own_words space_words key_words entry_words words_of first_use at_first kept_size stored_size own_pieces entry_pieces pieces_of words_in pool_size offset once_at run_from methods_with constants_with descriptor_with kept_bytes pool_with own_after entry_with directory_with length_with file_with normal_form
marked = (refl, refl, refl)

-- ---- names used several times

-- a method without arguments that returns an nsresult
plain_method : List ℕ → Method Key
plain_method w = method 0x00 w (signature [] (param 0x00 (simple 0x06)))

-- the interface A.A with a method A and a constant A
pub one_name : List (Entry Key)
one_name = entry (key (0x41 ∷ []) (0x41 ∷ [])) 1 (some (descriptor none (plain_method (0x41 ∷ []) ∷ []) (constant (0x41 ∷ []) 1 5 ∷ []) 0x80)) ∷ []

foo : List ℕ
foo = 0x66 ∷ 0x6f ∷ 0x6f ∷ []

bar : List ℕ
bar = 0x62 ∷ 0x61 ∷ 0x72 ∷ []

-- the interface X with the methods foo, foo and bar
with_methods : Entry Key
with_methods = entry (key [] (0x58 ∷ [])) 1 (some (descriptor none (plain_method foo ∷ plain_method foo ∷ plain_method bar ∷ []) [] 0x80))

-- after bar.foo
pub key_first : List (Entry Key)
key_first = entry (key bar foo) 0 none ∷ with_methods ∷ []

-- before it: its methods' names are the first uses of foo and bar, and stand after its descriptor
pub methods_first : List (Entry Key)
methods_first = with_methods ∷ entry (key bar foo) 2 none ∷ []

-- x.y and y.x
pub crossed : List (Entry Key)
crossed = entry (key (0x78 ∷ []) (0x79 ∷ [])) 0 none ∷ entry (key (0x79 ∷ []) (0x78 ∷ [])) 0 none ∷ []

-- the pool pointers of the uses from u on
pointers_from : (ℕ → ℕ) → ℕ → List (List ℕ) → List ℕ
pointers_from at u [] = []
pointers_from at u (w ∷ ws) = at u ∷ pointers_from at (u + 1) ws

-- length, and the pool pointers of the uses in order
pub record Row : Type 0 where
  pub long : ℕ
  pub pointers : List ℕ

pub row_of : List (Entry Key) → Row
row_of us = record { long = normal_length us; pointers = pointers_from (once_at (pieces_of us)) 0 (words_of us) }

pub table : map row_of (one_name ∷ key_first ∷ methods_first ∷ crossed ∷ []) ≡
    record { long = 88; pointers = 1 ∷ 1 ∷ 1 ∷ 1 ∷ [] }
    ∷ record { long = 133; pointers = 1 ∷ 5 ∷ 9 ∷ 1 ∷ 1 ∷ 5 ∷ [] }
    ∷ record { long = 133; pointers = 1 ∷ 34 ∷ 34 ∷ 38 ∷ 34 ∷ 38 ∷ [] }
    ∷ record { long = 96; pointers = 1 ∷ 3 ∷ 3 ∷ 1 ∷ [] }
    ∷ []
unfolding plain_method one_name foo bar with_methods key_first methods_first crossed pointers_from row_of when◌then◌else◌ ◌<?◌ ◌=?◌ scan is_same compare_words then_by compare_keys same_key same_as first_same sum type_size param_size method_size value_width constant_size descriptor_size name_size method_name constant_name names_of own_words space_words key_words entry_words words_of first_use at_first kept_size stored_size stock_size own_body body_length normal_length own_pieces entry_pieces pieces_of words_in offset once_at
table = refl

-- all bytes of the first
pub bytes : normal_form one_name ≡ magic ++ (
    0x01 ∷ 0x01 ∷ 0x00 ∷ 0x01 ∷ 0x00 ∷ 0x00 ∷ 0x00 ∷ 0x58 ∷ 0x00 ∷ 0x00 ∷ 0x00 ∷ 0x24 ∷ 0x00 ∷ 0x00 ∷ 0x00 ∷ 0x40
    ∷ 0x80 ∷ 0x00 ∷ 0x00 ∷ 0x00
    ∷ 0x00 ∷ 0x00 ∷ 0x00 ∷ 0x00 ∷ 0x00 ∷ 0x00 ∷ 0x00 ∷ 0x00 ∷ 0x00 ∷ 0x00 ∷ 0x00 ∷ 0x00 ∷ 0x00 ∷ 0x00 ∷ 0x00 ∷ 0x01
    ∷ 0x00 ∷ 0x00 ∷ 0x00 ∷ 0x01 ∷ 0x00 ∷ 0x00 ∷ 0x00 ∷ 0x01 ∷ 0x00 ∷ 0x00 ∷ 0x00 ∷ 0x03
    ∷ 0x41 ∷ 0x00
    ∷ 0x00 ∷ 0x00 ∷ 0x00 ∷ 0x01 ∷ 0x00 ∷ 0x00 ∷ 0x00 ∷ 0x00 ∷ 0x01 ∷ 0x00 ∷ 0x00 ∷ 0x06
    ∷ 0x00 ∷ 0x01 ∷ 0x00 ∷ 0x00 ∷ 0x00 ∷ 0x01 ∷ 0x01 ∷ 0x00 ∷ 0x05 ∷ 0x80 ∷ [])
unfolding plain_method one_name when◌then◌else◌ ◌<?◌ ◌≤?◌ ◌=?◌ scan is_same compare_words then_by compare_keys same_key same_as first_same keys_of index_of bytes_of sum type_size param_size method_size value_width constant_size descriptor_size name_size run type_bytes param_bytes method_bytes constant_bytes parent_number name_bytes method_name constant_name param_type any_of entry_descriptor methods_of prefixes_of params_of new_tag new_prefix new_type new_param new_method new_descriptor new_own new_entry minor_of space_pointer own_pointer normal_header header_bytes note_bytes names_of own_words space_words key_words entry_words words_of first_use at_first kept_size stored_size own_pieces entry_pieces pieces_of words_in pool_size offset once_at run_from methods_with constants_with descriptor_with kept_bytes pool_with own_after entry_with directory_with length_with file_with normal_form
bytes = refl
