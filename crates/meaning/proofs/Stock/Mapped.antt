-- Words, sizes and places are free of the references, and the form of entries whose references were mapped is that of the entries, with the maps in turn.
-- Assumes nothing.
use mathlib.Core.Path.{◌≡◌, refl, sym, ap, ◌∙◌}
use mathlib.Core.Bool.{Bool}
use mathlib.Core.List.{List, [], ◌∷◌, ◌++◌, map, map-append}
use mathlib.Core.Option.{Option, none, some}
use Prim.Native.Nat.{ℕ, ◌+◌, ◌*◌}
use lib.ListN.{length, length-map}
use Rattle.number.specs.Choice.{when◌then◌else◌, ◌=?◌}
use Rattle.key.specs.Key.{Key, key}
use Rattle.reader.specs.Values.{method_name, constant_name, Descriptor, descriptor, Entry, entry}
use Rattle.meaning.specs.Meaning.{map_method, map_descriptor, map_own, map_entry}
use Rattle.meaning.specs.Index.{keys_of, index_of, renumbered}
use Rattle.meaning.proofs.Maps.{itself, map-list}
use Rattle.meaning.specs.Normal.BigEndian.{bytes_of}
use Rattle.meaning.specs.Normal.Size.{descriptor_size}
use Rattle.meaning.specs.Normal.Record.{method_bytes}
use Rattle.meaning.specs.Normal.Normal.{space_pointer, header_bytes, note_bytes}
use Rattle.meaning.proofs.Normal.Mapped.{name_mapped, descriptor_size_lem, method_bytes_lem, parent_number_lem, own_pointer_lem, header_mapped}
use Rattle.meaning.specs.Stock.Uses.{names_of, key_words, entry_words, words_of, first_use, at_first, kept_size, normal_length}
use Rattle.meaning.specs.Stock.Pool.{Piece, word, body, own_pieces, entry_pieces, pieces_of, words_in, pool_size, offset, once_at}
use Rattle.meaning.specs.Stock.Form.{run_from, methods_with, constants_with, descriptor_with, kept_bytes, pool_with, own_after, entry_with, directory_with, length_with, file_with, file_bytes, normal_form}
use Rattle.meaning.proofs.Stock.Pools.{entry_words_lem, words_pieces, normal_length_lem}

module _ {R S : Type 0} (g : R → S) where
  map_piece : Piece R → Piece S
  map_piece (word w) = word w
  map_piece (body d) = body (map_descriptor g d)

  -- ---- pieces

  words_piece : (ws : List (List ℕ)) → map map_piece (map word ws) ≡ map word ws
  unfolding map_piece
  words_piece ws = map-list map_piece word word (λ w. refl) ws

  names_mapped : (d : Descriptor R) → names_of (map_descriptor g d) ≡ names_of d
  unfolding names_of map_descriptor
  names_mapped (descriptor up ms ks f) = λ i. map-list method_name (map_method g) method_name (name_mapped g) ms i ++ map constant_name ks

  own_pieces_lem : (d : Option (Descriptor R)) → own_pieces (map_own g d) ≡ map map_piece (own_pieces d)
  unfolding own_pieces map_own map_piece
  own_pieces_lem none = refl
  own_pieces_lem (some d) = λ i. body (map_descriptor g d) ∷ (ap (map word) (names_mapped d) ∙ sym (words_piece (names_of d))) i

  entry_pieces_lem : (e : Entry R) → entry_pieces (map_entry g e) ≡ map map_piece (entry_pieces e)
  unfolding entry_pieces map_entry
  entry_pieces_lem (entry k j d) = (λ i. sym (words_piece (key_words k)) i ++ own_pieces_lem d i) ∙ sym (map-append map_piece (map word (key_words k)) (own_pieces d))

  pieces_mapped : (us : List (Entry R)) → pieces_of (map (map_entry g) us) ≡ map map_piece (pieces_of us)
  unfolding pieces_of
  pieces_mapped [] = refl
  pieces_mapped (e ∷ us) = (λ i. entry_pieces_lem e i ++ pieces_mapped us i) ∙ sym (map-append map_piece (entry_pieces e) (pieces_of us))

  words_in_lem : (ps : List (Piece R)) → words_in (map map_piece ps) ≡ words_in ps
  unfolding words_in map_piece
  words_in_lem [] = refl
  words_in_lem (word w ∷ ps) = λ i. w ∷ words_in_lem ps i
  words_in_lem (body d ∷ ps) = words_in_lem ps

  entry_same : (e : Entry R) → entry_words (map_entry g e) ≡ entry_words e
  entry_same e = sym (entry_words_lem (map_entry g e)) ∙ ap words_in (entry_pieces_lem e) ∙ words_in_lem (entry_pieces e) ∙ entry_words_lem e

  pub words_mapped : (us : List (Entry R)) → words_of (map (map_entry g) us) ≡ words_of us
  words_mapped us = sym (words_pieces (map (map_entry g) us)) ∙ ap words_in (pieces_mapped us) ∙ words_in_lem (pieces_of us) ∙ words_pieces us

  -- ---- sizes and places

  module _ (kept : ℕ → Bool) where
    pool_size_lem : (u : ℕ) (ps : List (Piece R)) → pool_size kept u (map map_piece ps) ≡ pool_size kept u ps
    unfolding pool_size map_piece
    pool_size_lem u [] = refl
    pool_size_lem u (word w ∷ ps) = λ i. kept_size kept u w + pool_size_lem (u + 1) ps i
    pool_size_lem u (body d ∷ ps) = λ i. descriptor_size_lem g d i + pool_size_lem u ps i

    entry_size_lem : (u : ℕ) (e : Entry R) → pool_size kept u (entry_pieces (map_entry g e)) ≡ pool_size kept u (entry_pieces e)
    entry_size_lem u e = ap (pool_size kept u) (entry_pieces_lem e) ∙ pool_size_lem u (entry_pieces e)

    pub length_mapped : (us : List (Entry R)) → length_with kept (map (map_entry g) us) ≡ length_with kept us
    unfolding length_with
    length_mapped us = λ i. 36 + 28 * length-map us (map_entry g) i + (ap (pool_size kept 0) (pieces_mapped us) ∙ pool_size_lem 0 (pieces_of us)) i

    offset_mapped : (u q : ℕ) (ps : List (Piece R)) (k : ℕ) → offset kept u q (map map_piece ps) k ≡ offset kept u q ps k
    unfolding offset map_piece
    offset_mapped u q [] k = refl
    offset_mapped u q (word w ∷ ps) k = λ i. when k =? u then q else offset_mapped (u + 1) (q + kept_size kept u w) ps k i
    offset_mapped u q (body d ∷ ps) k = ap (λ (n : ℕ). offset kept u (q + n) (map map_piece ps) k) (descriptor_size_lem g d) ∙ offset_mapped u (q + descriptor_size d) ps k

  once_at_lem : (ps : List (Piece R)) → once_at (map map_piece ps) ≡ once_at ps
  unfolding once_at
  once_at_lem ps = λ i u. (ap (λ (ws : List (List ℕ)). 1 + offset (at_first ws) 0 0 (map map_piece ps) (first_use ws u)) (words_in_lem ps) ∙ ap (λ (n : ℕ). 1 + n) (offset_mapped (at_first (words_in ps)) 0 0 ps (first_use (words_in ps) u))) i

  once_mapped : (us : List (Entry R)) → once_at (pieces_of (map (map_entry g) us)) ≡ once_at (pieces_of us)
  once_mapped us = ap once_at (pieces_mapped us) ∙ once_at_lem (pieces_of us)

  pub normal_mapped : (us : List (Entry R)) → normal_length (map (map_entry g) us) ≡ normal_length us
  normal_mapped us =
      sym (normal_length_lem (map (map_entry g) us)) ∙ ap (λ (ws : List (List ℕ)). length_with (at_first ws) (map (map_entry g) us)) (words_mapped us)
      ∙ length_mapped (at_first (words_of us)) us ∙ normal_length_lem us

-- ---- bytes

from_mapped : {X Y : Type 0} (h : X → Y) (one : ℕ → Y → List ℕ) (other : ℕ → X → List ℕ) → ((u : ℕ) (x : X) → one u (h x) ≡ other u x) → (u : ℕ) (xs : List X) → run_from one u (map h xs) ≡ run_from other u xs
unfolding run_from
from_mapped h one other e u [] = refl
from_mapped h one other e u (x ∷ xs) = λ i. e u x i ++ from_mapped h one other e (u + 1) xs i

module _ {R S : Type 0} (f : S → ℕ) (g : R → S) (at : ℕ → ℕ) where
  abbrev after : R → ℕ
  after r = f (g r)

  pub descriptor_mapped : (u : ℕ) (d : Descriptor R) → descriptor_with f at u (map_descriptor g d) ≡ descriptor_with after at u d
  unfolding descriptor_with methods_with map_descriptor
  descriptor_mapped u (descriptor up ms ks h) = λ i.
      bytes_of 2 (parent_number_lem f g up i)
      ++ bytes_of 2 (length-map ms (map_method g) i) ++ from_mapped (map_method g) (λ k m. method_bytes f (at k) m) (λ k m. method_bytes after (at k) m) (λ k m. method_bytes_lem f g (at k) m) u ms i
      ++ bytes_of 2 (length ks) ++ constants_with at (u + length-map ms (map_method g) i) ks
      ++ (h ∷ [])

  pool_mapped : (kept : ℕ → Bool) (u : ℕ) (ps : List (Piece R)) → pool_with f at kept u (map (map_piece g) ps) ≡ pool_with after at kept u ps
  unfolding pool_with map_piece
  pool_mapped kept u [] = refl
  pool_mapped kept u (word w ∷ ps) = λ i. kept_bytes kept u w ++ pool_mapped kept (u + 1) ps i
  pool_mapped kept u (body d ∷ ps) = λ i. descriptor_mapped u d i ++ pool_mapped kept u ps i

module _ {R S : Type 0} (g : R → S) (at : ℕ → ℕ) (kept : ℕ → Bool) where
  row_mapped : (u q : ℕ) (e : Entry R) → entry_with at kept u q (map_entry g e) ≡ entry_with at kept u q e
  unfolding entry_with map_entry
  row_mapped u q (entry (key v w) j d) = λ i.
      bytes_of 16 j ++ bytes_of 4 (at u) ++ bytes_of 4 (space_pointer (at (u + 1)) v) ++ bytes_of 4 (own_pointer_lem g (own_after kept u q (key v w)) d i)

  directory_mapped : (u q : ℕ) (us : List (Entry R)) → directory_with at kept u q (map (map_entry g) us) ≡ directory_with at kept u q us
  unfolding directory_with
  directory_mapped u q [] = refl
  directory_mapped u q (e ∷ us) =
      let v = entry_same g e in
      let z = entry_size_lem g kept u e in
      let a : directory_with at kept (u + length (entry_words (map_entry g e))) (q + pool_size kept u (entry_pieces (map_entry g e))) (map (map_entry g) us)
      ≡ directory_with at kept (u + length (entry_words e)) (q + pool_size kept u (entry_pieces e)) us
      = (λ i. directory_with at kept (u + length (v i)) (q + z i) (map (map_entry g) us)) ∙ directory_mapped (u + length (entry_words e)) (q + pool_size kept u (entry_pieces e)) us in
      λ i. row_mapped u q e i ++ a i

with_mapped : {R S : Type 0} (f : S → ℕ) (g : R → S) (at : ℕ → ℕ) (kept : ℕ → Bool) (us : List (Entry R)) → file_with f at kept (map (map_entry g) us) ≡ file_with (λ r. f (g r)) at kept us
unfolding file_with
with_mapped f g at kept us =
    let a = ap (pool_with f at kept 0) (pieces_mapped g us) ∙ pool_mapped f g at kept 0 (pieces_of us) in
    λ i. header_bytes (header_mapped g us i) (length_mapped g kept us i) ++ note_bytes ++ directory_mapped g at kept 0 1 us i ++ a i

pub file_mapped : {R S : Type 0} (f : S → ℕ) (g : R → S) (us : List (Entry R)) → file_bytes f (map (map_entry g) us) ≡ file_bytes (λ r. f (g r)) us
file_mapped f g us =
    let a = once_mapped g us in
    let w = words_mapped g us in
    (λ i. file_with f (a i) (at_first (w i)) (map (map_entry g) us)) ∙ with_mapped f g (once_at (pieces_of us)) (at_first (words_of us)) us

-- the normal form is the file of the entries numbered anew
pub normal_file : (us : List (Entry Key)) → normal_form us ≡ file_bytes itself (renumbered us)
unfolding normal_form renumbered
normal_file us = sym (file_mapped itself (index_of (keys_of us)) us)
