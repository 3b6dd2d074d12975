-- Document 01, "Marked cases": P1 to P3 are each their own normal form; P12 and P13. Before the buffer, and over any buffer with room.
-- Assumes nothing.
use Rattle.std.specs.Prelude.{Err, Ok}
use mathlib.Core.Path.{◌≡◌, refl}
use mathlib.Core.List.{List}
use Prim.Native.Nat.{ℕ, ◌≤◌}
use native.Mathlib.Decide.{ℕ_discrete}
use lib.ListN.{length}
use lib.Seq.{sets}
use Rattle.number.specs.Choice.{when◌then◌else◌, ◌<?◌, ◌=?◌}
use Rattle.number.specs.Scan.{scan, some as one}
use Rattle.key.specs.Word.{compare_words, is_same}
use Rattle.key.specs.Key.{then_by, compare_keys, same_key}
use Rattle.key.specs.First.{same_as, first_same}
use Rattle.reader.specs.Values.{entries_in, parent_of, methods_of, entry_key, entry_descriptor}
use Rattle.reader.specs.Reader.{decode}
use Rattle.reader.specs.Reader.Marked.{P1, P2, P3, P13, says1, says2, says3, says13, decodes1, decodes2, decodes3, decodes13}
use Rattle.meaning.specs.Meaning.{map_parent, map_descriptor, map_own, map_entry, meaning}
use Rattle.meaning.specs.Index.{keys_of, index_of}
use Rattle.meaning.specs.Facts.Equal.{cons?, list?, some?, option?, word?, key?, param?, method?, descriptor?, decided, same_descriptor}
use Rattle.meaning.specs.Facts.Facts.{prepend, said, says_iid, says_descriptor}
use Rattle.meaning.specs.Facts.Union.{values_of, first_of, or_zero, iid_in, descriptor_for, compare_numbers, compare_by, beside, insert, sort, entry_for, union}
use Rattle.meaning.specs.Facts.Conditions.{any_of, differ, two_iids, shares_with, shared_iid, two_descriptors, parent_from, parent_in, climb, is_some, endless}
use Rattle.meaning.specs.Facts.Valid.{blank, entry_at}
use Rattle.meaning.specs.Facts.Link.{such_at, any_such, first_such, link_both, link_entries, normal_entries}
use Rattle.meaning.specs.Normal.BigEndian.{bytes_of}
use Rattle.meaning.specs.Normal.Size.{sum, value_width, constant_size, descriptor_size, name_size, constant_name}
use Rattle.meaning.specs.Normal.Record.{constant_bytes, parent_number, name_bytes}
use Rattle.meaning.specs.Normal.Minor.{new_descriptor, new_own, new_entry, minor_of}
use Rattle.meaning.specs.Normal.Normal.{space_pointer, own_pointer, normal_header, header_bytes, note_bytes}
use Rattle.meaning.specs.Stock.Uses.{names_of, own_words, space_words, key_words, entry_words, words_of, first_use, at_first, kept_size, stored_size, stock_size, own_body, body_length, normal_length}
use Rattle.meaning.specs.Stock.Pool.{own_pieces, entry_pieces, pieces_of, words_in, pool_size, offset, once_at}
use Rattle.meaning.specs.Stock.Form.{run_from, methods_with, constants_with, descriptor_with, kept_bytes, pool_with, own_after, entry_with, directory_with, length_with, file_with, normal_form}
use Rattle.link.specs.declared.Which.TheVariants.{Union}
use Rattle.joining.specs.Outcome.{refused, written, encoded}
use Rattle.link.specs.Outcome.{refusal_of, normal_of, normalise_answer, normalise_buffer, link_of, link_answer, link_buffer}
use Rattle.link.proofs.Buffers.{normal_room, link_room, link_stopped}

pub record Marked : Type 0 where
  pub own1 : normal_of (decode P1) ≡ written P1
  pub own2 : normal_of (decode P2) ≡ written P2
  pub own3 : normal_of (decode P3) ≡ written P3
  -- P12, P1 linked with P3: P3
  pub linked12 : link_of (decode P1) (decode P3) ≡ written P3
  -- P13, P3 linked with P3 whose value is fffd: 23 at 1
  pub linked13 : link_of (decode P3) (decode P13) ≡ refused (refusal_of Union 23 1)

pub marked : Marked
unfolding P1 P2 P3 says1 says2 says3 says13 encoded normal_of link_of entries_in map_parent map_descriptor map_own map_entry meaning normal_entries link_entries link_both any_such first_such such_at one scan when◌then◌else◌ ◌<?◌ ◌=?◌ compare_words is_same then_by compare_keys same_key parent_of entry_key cons? list? some? option? word? key? param? method? descriptor? decided same_descriptor prepend said says_iid says_descriptor values_of first_of or_zero iid_in descriptor_for compare_numbers compare_by beside insert sort entry_for union any_of differ two_iids shares_with shared_iid two_descriptors parent_from parent_in climb is_some endless blank entry_at ℕ_discrete keys_of index_of same_as first_same bytes_of sum value_width constant_size descriptor_size name_size constant_name constant_bytes parent_number name_bytes entry_descriptor methods_of new_descriptor new_own new_entry minor_of space_pointer own_pointer normal_header header_bytes note_bytes names_of own_words space_words key_words entry_words words_of first_use at_first kept_size stored_size stock_size own_body body_length normal_length own_pieces entry_pieces pieces_of words_in pool_size offset once_at run_from methods_with constants_with descriptor_with kept_bytes pool_with own_after entry_with directory_with length_with file_with normal_form
marked = record {
  own1 = rw decodes1 refl;
  own2 = rw decodes2 refl;
  own3 = rw decodes3 refl;
  linked12 = rw (decodes1, decodes3) refl;
  linked13 = rw (decodes3, decodes13) refl;
}

-- ---- over a buffer

module _ (out : List ℕ) where
  pub normalises1 : 36 ≤ length out → (normalise_answer P1 out ≡ Ok 36) × (normalise_buffer P1 out ≡ sets out 0 P1)
  unfolding P1
  normalises1 h = normal_room P1 out P1 marked.own1 h

  pub normalises2 : 69 ≤ length out → (normalise_answer P2 out ≡ Ok 69) × (normalise_buffer P2 out ≡ sets out 0 P2)
  unfolding P2
  normalises2 h = normal_room P2 out P2 marked.own2 h

  pub normalises3 : 82 ≤ length out → (normalise_answer P3 out ≡ Ok 82) × (normalise_buffer P3 out ≡ sets out 0 P3)
  unfolding P3
  normalises3 h = normal_room P3 out P3 marked.own3 h

  pub links12 : 82 ≤ length out → (link_answer P1 P3 out ≡ Ok 82) × (link_buffer P1 P3 out ≡ sets out 0 P3)
  unfolding P3
  links12 h = link_room P1 P3 out P3 marked.linked12 h

  pub links13 : (link_answer P3 P13 out ≡ Err (refusal_of Union 23 1)) × (link_buffer P3 P13 out ≡ out)
  links13 = link_stopped P3 P13 out (refusal_of Union 23 1) marked.linked13
