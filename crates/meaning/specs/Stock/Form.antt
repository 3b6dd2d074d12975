-- A file of entries, over where each use of a name points (`at`) and which words are stored (`kept`); `f` gives the index of a reference.
-- Records count uses: u is the first of a record.
-- Assumes nothing.
use Rattle.std.specs.Prelude.{Bool, List, [], ◌∷◌, ◌++◌, ℕ, ◌+◌, ◌*◌, length}
use Rattle.number.specs.Limits.{entry_width}
use Rattle.number.specs.Choice.{when◌then◌else◌}
use Rattle.key.specs.Key.{Key, key}
use Rattle.reader.specs.Values.{Method, Constant, Descriptor, descriptor, Entry, entry}
use Rattle.meaning.specs.Index.{keys_of, index_of}
use Rattle.meaning.specs.Normal.BigEndian.{bytes_of}
use Rattle.meaning.specs.Normal.Record.{method_bytes, constant_bytes, parent_number, name_bytes}
use Rattle.meaning.specs.Normal.Normal.{space_pointer, own_pointer, normal_header, header_bytes, note_bytes}
use Rattle.meaning.specs.Stock.Uses.{key_words, entry_words, words_of, at_first, stored_size}
use Rattle.meaning.specs.Stock.Pool.{Piece, word, body, entry_pieces, pieces_of, pool_size, once_at}

-- ---- descriptors

-- records in turn, each with one use
unfoldable pub run_from : {X : Type 0} → (ℕ → X → List ℕ) → ℕ → List X → List ℕ
run_from one u [] = []
run_from one u (x ∷ xs) = one u x ++ run_from one (u + 1) xs

unfoldable pub methods_with : {R : Type 0} → (R → ℕ) → (ℕ → ℕ) → ℕ → List (Method R) → List ℕ
methods_with f at u ms = run_from (λ k m. method_bytes f (at k) m) u ms

unfoldable pub constants_with : (ℕ → ℕ) → ℕ → List Constant → List ℕ
constants_with at u cs = run_from (λ k c. constant_bytes (at k) c) u cs

-- parent, method count, methods, constant count, constants, flags
unfoldable pub descriptor_with : {R : Type 0} → (R → ℕ) → (ℕ → ℕ) → ℕ → Descriptor R → List ℕ
descriptor_with f at u (descriptor up ms ks g) =
    bytes_of 2 (parent_number f up)
    ++ bytes_of 2 (length ms) ++ methods_with f at u ms
    ++ bytes_of 2 (length ks) ++ constants_with at (u + length ms) ks
    ++ (g ∷ [])

-- ---- the pool

unfoldable pub kept_bytes : (ℕ → Bool) → ℕ → List ℕ → List ℕ
kept_bytes kept u w = when kept u then name_bytes w else []

-- the names of a descriptor are the uses that follow it
unfoldable pub pool_with : {R : Type 0} → (R → ℕ) → (ℕ → ℕ) → (ℕ → Bool) → ℕ → List (Piece R) → List ℕ
pool_with f at kept u [] = []
pool_with f at kept u (word w ∷ ps) = kept_bytes kept u w ++ pool_with f at kept (u + 1) ps
pool_with f at kept u (body d ∷ ps) = descriptor_with f at u d ++ pool_with f at kept u ps

-- ---- the directory

-- where the descriptor of an entry lies, its part of the pool starting at the pool pointer q
unfoldable pub own_after : (ℕ → Bool) → ℕ → ℕ → Key → ℕ
own_after kept u q k = q + stored_size kept u (key_words k)

-- IID, name pointer, namespace pointer, descriptor pointer
unfoldable pub entry_with : {R : Type 0} → (ℕ → ℕ) → (ℕ → Bool) → ℕ → ℕ → Entry R → List ℕ
entry_with at kept u q (entry (key v w) i d) =
    bytes_of 16 i ++ bytes_of 4 (at u) ++ bytes_of 4 (space_pointer (at (u + 1)) v) ++ bytes_of 4 (own_pointer (own_after kept u q (key v w)) d)

unfoldable pub directory_with : {R : Type 0} → (ℕ → ℕ) → (ℕ → Bool) → ℕ → ℕ → List (Entry R) → List ℕ
directory_with at kept u q [] = []
directory_with at kept u q (e ∷ es) = entry_with at kept u q e ++ directory_with at kept (u + length (entry_words e)) (q + pool_size kept u (entry_pieces e)) es

-- ---- the file

unfoldable pub length_with : {R : Type 0} → (ℕ → Bool) → List (Entry R) → ℕ
length_with kept us = 36 + entry_width * length us + pool_size kept 0 (pieces_of us)

unfoldable pub file_with : {R : Type 0} → (R → ℕ) → (ℕ → ℕ) → (ℕ → Bool) → List (Entry R) → List ℕ
file_with f at kept us = header_bytes (normal_header us) (length_with kept us) ++ note_bytes ++ directory_with at kept 0 1 us ++ pool_with f at kept 0 (pieces_of us)

-- document 02: each name is stored once, at its first use, and later uses point to it
abbrev pub file_bytes : {R : Type 0} → (R → ℕ) → List (Entry R) → List ℕ
file_bytes f us = file_with f (once_at (pieces_of us)) (at_first (words_of us)) us

-- references are written as indexes of its own directory
unfoldable pub normal_form : List (Entry Key) → List ℕ
normal_form us = file_bytes (index_of (keys_of us)) us
