-- Each part of a form has as many bytes as its size says, wherever its uses point.
-- Assumes nothing.
use mathlib.Core.Path.{◌≡◌, refl, ◌∙◌}
use mathlib.Core.Bool.{Bool, true, false}
use mathlib.Core.List.{List, [], ◌∷◌}
use Prim.Native.Nat.{ℕ, ◌+◌, ◌*◌}
use native.Mathlib.Omega.{arith}
use lib.ListN.{length, length-append}
use Rattle.number.specs.Choice.{when◌then◌else◌}
use Rattle.key.specs.Key.{Key, key}
use Rattle.reader.specs.Values.{Method, Constant, Descriptor, descriptor, Entry, entry}
use Rattle.meaning.specs.Index.{keys_of, index_of}
use Rattle.meaning.specs.Normal.Size.{sum, method_size, constant_size, descriptor_size, name_size}
use Rattle.meaning.specs.Normal.Record.{method_bytes, constant_bytes, parent_number, name_bytes}
use Rattle.meaning.specs.Normal.Normal.{space_pointer, own_pointer, normal_header, note_bytes}
use Rattle.meaning.proofs.Normal.Lengths.{length_bytes, length_name, length_method, length_constant, length_header}
use Rattle.meaning.specs.Stock.Uses.{entry_words, words_of, at_first, kept_size, normal_length}
use Rattle.meaning.specs.Stock.Pool.{Piece, word, body, entry_pieces, pieces_of, pool_size, once_at}
use Rattle.meaning.specs.Stock.Form.{run_from, methods_with, constants_with, descriptor_with, kept_bytes, pool_with, own_after, entry_with, directory_with, length_with, file_with, normal_form}
use Rattle.meaning.proofs.Stock.Pools.{normal_length_lem}

length_from : {X : Type 0} (one : ℕ → X → List ℕ) (size : X → ℕ) → ((u : ℕ) (x : X) → length (one u x) ≡ size x) → (u : ℕ) (xs : List X) → length (run_from one u xs) ≡ sum size xs
unfolding run_from sum
length_from one size h u [] = refl
length_from one size h u (x ∷ xs) = omega (arith, length-append (one u x) (run_from one (u + 1) xs), h u x, length_from one size h (u + 1) xs)

pub length_constants : (at : ℕ → ℕ) (u : ℕ) (cs : List Constant) → length (constants_with at u cs) ≡ sum constant_size cs
unfolding constants_with
length_constants at = length_from (λ k c. constant_bytes (at k) c) constant_size (λ k c. length_constant (at k) c)

pub length_kept : (kept : ℕ → Bool) (u : ℕ) (w : List ℕ) → length (kept_bytes kept u w) ≡ kept_size kept u w
unfolding kept_bytes kept_size when◌then◌else◌
length_kept kept u w = go (kept u)
  where
    go : (t : Bool) → length (when t then name_bytes w else []) ≡ (when t then name_size w else 0)
    go true = length_name w
    go false = refl

module _ {R : Type 0} (f : R → ℕ) (at : ℕ → ℕ) where
  pub length_methods : (u : ℕ) (ms : List (Method R)) → length (methods_with f at u ms) ≡ sum method_size ms
  unfolding methods_with
  length_methods = length_from (λ k m. method_bytes f (at k) m) method_size (λ k m. length_method f (at k) m)

  pub length_descriptor : (u : ℕ) (d : Descriptor R) → length (descriptor_with f at u d) ≡ descriptor_size d
  unfolding descriptor_with descriptor_size
  length_descriptor u (descriptor up ms ks g) =
      simp length-append (omega (arith, length_bytes 2 (parent_number f up), length_bytes 2 (length ms), length_methods u ms, length_bytes 2 (length ks), length_constants at (u + length ms) ks))

  module _ (kept : ℕ → Bool) where
    pub length_pool : (u : ℕ) (ps : List (Piece R)) → length (pool_with f at kept u ps) ≡ pool_size kept u ps
    unfolding pool_with pool_size
    length_pool u [] = refl
    length_pool u (word w ∷ ps) = rw length-append (omega (arith, length_kept kept u w, length_pool (u + 1) ps))
    length_pool u (body d ∷ ps) = rw length-append (omega (arith, length_descriptor u d, length_pool u ps))

module _ {R : Type 0} (at : ℕ → ℕ) (kept : ℕ → Bool) where
  pub length_entry : (u q : ℕ) (e : Entry R) → length (entry_with at kept u q e) ≡ 28
  unfolding entry_with
  length_entry u q (entry (key v w) i d) =
      let a = space_pointer (at (u + 1)) v in
      let b = own_pointer (own_after kept u q (key v w)) d in
      simp length-append (omega (arith, length_bytes 16 i, length_bytes 4 (at u), length_bytes 4 a, length_bytes 4 b))

  pub length_directory : (u q : ℕ) (us : List (Entry R)) → length (directory_with at kept u q us) ≡ 28 * length us
  unfolding directory_with
  length_directory u q [] = refl
  length_directory u q (e ∷ us) = rw length-append (omega (arith, length_entry u q e, length_directory (u + length (entry_words e)) (q + pool_size kept u (entry_pieces e)) us))

  pub length_file : (f : R → ℕ) (us : List (Entry R)) → length (file_with f at kept us) ≡ length_with kept us
  unfolding file_with length_with note_bytes
  length_file f us =
      simp length-append (omega (arith, length_header (normal_header us) (36 + 28 * length us + pool_size kept 0 (pieces_of us)), length_directory 0 1 us, length_pool f at kept 0 (pieces_of us)))

-- 26 and 27 count the bytes that are written
pub length_normal : (us : List (Entry Key)) → length (normal_form us) ≡ normal_length us
unfolding normal_form
length_normal us = length_file (once_at (pieces_of us)) (at_first (words_of us)) (index_of (keys_of us)) us ∙ normal_length_lem us
