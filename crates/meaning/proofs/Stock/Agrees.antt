-- A form looks at the pointers of its uses alone.
-- Assumes nothing.
use mathlib.Core.Path.{◌≡◌, refl, sym, ap, ◌∙◌}
use mathlib.Core.Bool.{Bool}
use mathlib.Core.List.{List, [], ◌∷◌, ◌++◌, map}
use mathlib.Core.Option.{Option, none, some}
use Prim.Native.Nat.{ℕ, ◌+◌, ◌≤◌, ◌<◌}
use native.Mathlib.Omega.{arith}
use lib.ListN.{length, length-append, length-map}
use Rattle.key.specs.Key.{key}
use Rattle.reader.specs.Values.{method_name, constant_name, Descriptor, descriptor, Entry, entry}
use Rattle.meaning.specs.Normal.BigEndian.{bytes_of}
use Rattle.meaning.specs.Normal.Record.{method_bytes, constant_bytes, parent_number}
use Rattle.meaning.specs.Normal.Normal.{space_pointer, own_pointer, normal_header, header_bytes, note_bytes}
use Rattle.meaning.specs.Stock.Uses.{names_of, own_words, space_words, key_words, entry_words, words_of}
use Rattle.meaning.specs.Stock.Pool.{word, own_pieces, entry_pieces, pieces_of, words_in, pool_size}
use Rattle.meaning.specs.Stock.Form.{run_from, methods_with, constants_with, descriptor_with, kept_bytes, pool_with, own_after, entry_with, directory_with, length_with, file_with}
use Rattle.meaning.proofs.Stock.Pools.{words_map, entry_words_lem, pool_append}

-- two ways to point agree on n uses from u on
abbrev pub Agrees : (ℕ → ℕ) → (ℕ → ℕ) → ℕ → ℕ → Type 0
Agrees at to u n = (k : ℕ) → u ≤ k → k < u + n → at k ≡ to k

from_ext : {X : Type 0} (at to : ℕ → ℕ) (one : ℕ → X → List ℕ) (u : ℕ) (xs : List X) → Agrees at to u (length xs) → run_from (λ k x. one (at k) x) u xs ≡ run_from (λ k x. one (to k) x) u xs
unfolding run_from
from_ext at to one u [] h = refl
from_ext at to one u (x ∷ xs) h =
    let a = h u (omega arith) (omega arith) in
    let b = from_ext at to one (u + 1) xs (λ k l m. h k (omega arith) (omega arith)) in
    λ i. one (a i) x ++ b i

module _ {R : Type 0} (f : R → ℕ) (at to : ℕ → ℕ) (kept : ℕ → Bool) where
  descriptor_ext : (u : ℕ) (d : Descriptor R) → Agrees at to u (length (names_of d)) → descriptor_with f at u d ≡ descriptor_with f to u d
  unfolding names_of descriptor_with methods_with constants_with
  descriptor_ext u (descriptor up ms ks g) h =
      let n = length-append (map method_name ms) (map constant_name ks) in
      let x = length-map ms method_name in
      let y = length-map ks constant_name in
      let a = from_ext at to (λ k m. method_bytes f k m) u ms (λ k l m. h k l (omega arith)) in
      let b = from_ext at to (λ k c. constant_bytes k c) (u + length ms) ks (λ k l m. h k (omega arith) (omega arith)) in
      λ i. bytes_of 2 (parent_number f up) ++ bytes_of 2 (length ms) ++ a i ++ bytes_of 2 (length ks) ++ b i ++ (g ∷ [])

  words_ext : (u : ℕ) (ws : List (List ℕ)) → pool_with f at kept u (map word ws) ≡ pool_with f to kept u (map word ws)
  unfolding pool_with
  words_ext u [] = refl
  words_ext u (w ∷ ws) = λ i. kept_bytes kept u w ++ words_ext (u + 1) ws i

  own_ext : (u : ℕ) (d : Option (Descriptor R)) → Agrees at to u (length (own_words d)) → pool_with f at kept u (own_pieces d) ≡ pool_with f to kept u (own_pieces d)
  unfolding own_words own_pieces pool_with
  own_ext u none h = refl
  own_ext u (some d) h = λ i. descriptor_ext u d h i ++ words_ext u (names_of d) i

  entry_ext : (u : ℕ) (e : Entry R) → Agrees at to u (length (entry_words e)) → pool_with f at kept u (entry_pieces e) ≡ pool_with f to kept u (entry_pieces e)
  unfolding entry_words entry_pieces
  entry_ext u (entry k j d) h =
      let n = length-append (key_words k) (own_words d) in
      let m = ap length (words_map R (key_words k)) in
      let a = own_ext (u + length (words_in {R = R} (map word (key_words k)))) d (λ x y z. h x (omega arith) (omega arith)) in
      pool_append f at kept u (map word (key_words k)) (own_pieces d) ∙ (λ i. words_ext u (key_words k) i ++ a i) ∙ sym (pool_append f to kept u (map word (key_words k)) (own_pieces d))

  pool_ext : (u : ℕ) (us : List (Entry R)) → Agrees at to u (length (words_of us)) → pool_with f at kept u (pieces_of us) ≡ pool_with f to kept u (pieces_of us)
  unfolding words_of pieces_of pool_with
  pool_ext u [] h = refl
  pool_ext u (e ∷ us) h =
      let n = length-append (entry_words e) (words_of us) in
      let m = ap length (entry_words_lem e) in
      let a = entry_ext u e (λ x y z. h x y (omega arith)) in
      let b = pool_ext (u + length (words_in (entry_pieces e))) us (λ x y z. h x (omega arith) (omega arith)) in
      pool_append f at kept u (entry_pieces e) (pieces_of us) ∙ (λ i. a i ++ b i) ∙ sym (pool_append f to kept u (entry_pieces e) (pieces_of us))

  space_ext : (u : ℕ) (v : List ℕ) → Agrees at to u (length (space_words v)) → space_pointer (at u) v ≡ space_pointer (to u) v
  unfolding space_words space_pointer
  space_ext u [] h = refl
  space_ext u (b ∷ v) h = h u (omega arith) (omega arith)

  row_ext : (u q : ℕ) (e : Entry R) → Agrees at to u (length (entry_words e)) → entry_with at kept u q e ≡ entry_with to kept u q e
  unfolding entry_words key_words entry_with
  row_ext u q (entry (key v w) j d) h =
      let n = length-append (space_words v) (own_words d) in
      let a = h u (omega arith) (omega arith) in
      let b = space_ext (u + 1) v (λ x y z. h x (omega arith) (omega arith)) in
      λ i. bytes_of 16 j ++ bytes_of 4 (a i) ++ bytes_of 4 (b i) ++ bytes_of 4 (own_pointer (own_after kept u q (key v w)) d)

  directory_ext : (u q : ℕ) (us : List (Entry R)) → Agrees at to u (length (words_of us)) → directory_with at kept u q us ≡ directory_with to kept u q us
  unfolding words_of directory_with
  directory_ext u q [] h = refl
  directory_ext u q (e ∷ us) h =
      let n = length-append (entry_words e) (words_of us) in
      let a = row_ext u q e (λ x y z. h x y (omega arith)) in
      let b = directory_ext (u + length (entry_words e)) (q + pool_size kept u (entry_pieces e)) us (λ x y z. h x (omega arith) (omega arith)) in
      λ i. a i ++ b i

  pub file_ext : (us : List (Entry R)) → Agrees at to 0 (length (words_of us)) → file_with f at kept us ≡ file_with f to kept us
  unfolding file_with
  file_ext us h = λ i. header_bytes (normal_header us) (length_with kept us) ++ note_bytes ++ directory_ext 0 1 us h i ++ pool_ext 0 us h i
