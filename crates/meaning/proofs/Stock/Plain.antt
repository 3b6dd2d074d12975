-- A file that stores the name of every use is document 01's plain form.
-- Assumes nothing.
use mathlib.Core.Path.{◌≡◌, refl, sym, ap, ◌∙◌}
use mathlib.Core.List.{List, [], ◌∷◌, ◌++◌, map, map-append, append-nil}
use mathlib.Core.Option.{Option, none, some}
use Prim.Native.Nat.{ℕ, ◌+◌, ◌≤◌}
use native.Mathlib.Omega.{arith}
use lib.ListN.{length, length-map}
use Rattle.number.proofs.Choice.{is_eq, no_eq}
use Rattle.key.specs.Key.{Key, key}
use Rattle.reader.specs.Values.{Method, method_name, constant_name, Descriptor, descriptor, Entry, entry}
use Rattle.meaning.specs.Index.{keys_of, index_of}
use Rattle.meaning.specs.Normal.BigEndian.{bytes_of}
use Rattle.meaning.specs.Normal.Size.{descriptor_size, name_size, method_name_size, entry_size, entry_length}
use Rattle.meaning.specs.Normal.Record.{run, method_bytes, name_after, methods_bytes, constant_bytes, constants_bytes, parent_number, constants_from, descriptor_bytes, name_bytes, method_name_bytes, constant_name_bytes, names_bytes}
use Rattle.meaning.specs.Normal.Normal.{space_from, own_from, names_from, space_bytes, own_bytes, entry_pool, pool_bytes, space_pointer, own_pointer, entry_bytes, directory_bytes, normal_header, header_bytes, note_bytes, plain_bytes, plain_form}
use Rattle.meaning.proofs.Normal.Appends.{run-append}
use Rattle.meaning.specs.Stock.Uses.{names_of, space_words, key_words, entry_words, always, kept_size, stored_size}
use Rattle.meaning.specs.Stock.Pool.{Piece, word, body, own_pieces, entry_pieces, pieces_of, words_in, pool_size, offset, plain_at}
use Rattle.meaning.specs.Stock.Form.{run_from, methods_with, constants_with, descriptor_with, kept_bytes, pool_with, own_after, entry_with, directory_with, file_with}
use Rattle.meaning.proofs.Stock.Pools.{words_map, entry_words_lem, size_words, entry_size_lem, pool_append, kept_bytes_lem, always_size, always_stored, plain_length_lem}
use Rattle.meaning.proofs.Stock.Grows.{weigh_names, space_weighs, entry_weighs}

-- ---- where every word is stored, each use has the pointer of the next piece, the first lying at the pool pointer q

abbrev Placed : {R : Type 0} → (ℕ → ℕ) → ℕ → ℕ → List (Piece R) → Type 0
Placed at u q [] = Unit {0}
Placed at u q (word w ∷ ps) = (at u ≡ q) × Placed at (u + 1) (name_after q w) ps
Placed at u q (body d ∷ ps) = Placed at u (q + descriptor_size d) ps

module _ {R : Type 0} (at : ℕ → ℕ) where
  Placed-at : (u v q r : ℕ) (ps : List (Piece R)) → u ≡ v → q ≡ r → Placed at u q ps → Placed at v r ps
  Placed-at u v q r ps e g h = rw (← e, ← g) h

  Placed-append : (u q : ℕ) (ps qs : List (Piece R)) → Placed at u q (ps ++ qs) → Placed at u q ps × Placed at (u + length (words_in ps)) (q + pool_size always u ps) qs
  unfolding words_in pool_size name_after
  Placed-append u q [] qs h = (tt, Placed-at u (u + 0) q (q + 0) qs (omega arith) (omega arith) h)
  Placed-append u q (word w ∷ ps) qs h =
      let r = Placed-append (u + 1) (name_after q w) ps qs h.1 in
      ((h.0, r.0), Placed-at _ (u + length (w ∷ words_in ps)) _ (q + (kept_size always u w + pool_size always (u + 1) ps)) qs (omega arith) (omega (arith, always_size u w)) r.1)
  Placed-append u q (body d ∷ ps) qs h =
      let r = Placed-append u (q + descriptor_size d) ps qs h in
      (r.0, Placed-at _ (u + length (words_in ps)) _ (q + (descriptor_size d + pool_size always u ps)) qs refl (omega arith) r.1)

  plain_from : (u q : ℕ) (ps : List (Piece R)) → ((k : ℕ) → u ≤ k → at k ≡ 1 + offset always u q ps k) → Placed at u (1 + q) ps
  unfolding offset name_after
  plain_from u q [] h = tt
  plain_from u q (word w ∷ ps) h =
      let q1 = q + kept_size always u w in
      let next : ℕ → ℕ = λ k. offset always (u + 1) q1 ps k in
      let here = h u (omega arith) ∙ ap (λ (n : ℕ). 1 + n) (sym (is_eq u u q (next u) refl refl)) in
      let rest = plain_from (u + 1) q1 ps (λ k l. h k (omega arith) ∙ ap (λ (n : ℕ). 1 + n) (sym (no_eq k u q (next k) (λ e. omega arith) refl))) in
      (here, Placed-at (u + 1) (u + 1) (1 + q1) (1 + q + name_size w) ps refl (omega (arith, always_size u w)) rest)
  plain_from u q (body d ∷ ps) h = Placed-at u u (1 + (q + descriptor_size d)) (1 + q + descriptor_size d) ps refl (omega arith) (plain_from u (q + descriptor_size d) ps h)

plain_Placed : {R : Type 0} (ps : List (Piece R)) → Placed (plain_at ps) 0 1 ps
unfolding plain_at
plain_Placed ps = plain_from (plain_at ps) 0 0 ps (λ k l. refl)

-- ---- descriptors

from_Placed : (R : Type 0) {X : Type 0} (at : ℕ → ℕ) (name : X → List ℕ) (one : ℕ → X → List ℕ) (all : ℕ → List X → List ℕ) → ((q : ℕ) → all q [] ≡ [])
    → ((q : ℕ) (x : X) (xs : List X) → all q (x ∷ xs) ≡ one q x ++ all (name_after q (name x)) xs)
    → (u q : ℕ) (xs : List X) → Placed {R = R} at u q (map word (map name xs)) → run_from (λ k x. one (at k) x) u xs ≡ all q xs
unfolding run_from
from_Placed R at name one all nil cons u q [] h = sym (nil q)
from_Placed R at name one all nil cons u q (x ∷ xs) h =
    let b = from_Placed R at name one all nil cons (u + 1) (name_after q (name x)) xs h.1 in
    (λ i. one (h.0 i) x ++ b i) ∙ sym (cons q x xs)

run_names : {X : Type 0} (name : X → List ℕ) (xs : List X) → run name_bytes (map name xs) ≡ run (λ x. name_bytes (name x)) xs
unfolding run
run_names name [] = refl
run_names name (x ∷ xs) = λ i. name_bytes (name x) ++ run_names name xs i

module _ {R : Type 0} where
  -- where the names of the constants begin
  methods_over : (u q : ℕ) (ms : List (Method R)) → (u + length (words_in {R = R} (map word (map method_name ms))) ≡ u + length ms) × (q + pool_size {R = R} always u (map word (map method_name ms)) ≡ constants_from q ms)
  unfolding constants_from method_name_size
  methods_over u q ms = (
    omega (arith, ap length (words_map R (map method_name ms)), length-map ms method_name),
    omega (arith, size_words always R u (map method_name ms), always_stored u (map method_name ms), weigh_names method_name ms),
  )

  names_run : (d : Descriptor R) → run name_bytes (names_of d) ≡ names_bytes d
  unfolding names_of names_bytes method_name_bytes constant_name_bytes
  names_run (descriptor up ms ks g) = run-append name_bytes (map method_name ms) (map constant_name ks) ∙ (λ i. run_names method_name ms i ++ run_names constant_name ks i)

-- ---- entries

always_bytes : (u : ℕ) (w : List ℕ) → kept_bytes always u w ≡ name_bytes w
unfolding always
always_bytes u w = kept_bytes_lem always u w refl

key-run : (v w : List ℕ) → run name_bytes (key_words (key v w)) ≡ name_bytes w ++ space_bytes v
unfolding key_words space_words space_bytes run
key-run v w = λ i. name_bytes w ++ go v i
  where
    go : (v : List ℕ) → run name_bytes (space_words v) ≡ space_bytes v
    go [] = refl
    go (b ∷ v) = append-nil (name_bytes (b ∷ v))

-- where the descriptor of an entry lies
key_from : (u q : ℕ) (v w : List ℕ) → q + stored_size always u (key_words (key v w)) ≡ own_from q (key v w)
unfolding key_words own_from space_from name_after
key_from u q v w = omega (arith, always_stored u (w ∷ space_words v), space_weighs v)

key_over : (R : Type 0) (u q : ℕ) (v w : List ℕ) → q + pool_size {R = R} always u (map word (key_words (key v w))) ≡ own_from q (key v w)
key_over R u q v w = ap (λ (n : ℕ). q + n) (size_words always R u (key_words (key v w))) ∙ key_from u q v w

entry_over : {R : Type 0} (u : ℕ) (e : Entry R) → pool_size always u (entry_pieces e) ≡ entry_size e
unfolding entry_length
entry_over u e = omega (arith, entry_size_lem always u e, always_stored u (entry_words e), entry_weighs e)

module _ {R : Type 0} (f : R → ℕ) (at : ℕ → ℕ) where
  descriptor_plain : (u q : ℕ) (d : Descriptor R) → Placed {R = R} at u q (map word (names_of d)) → descriptor_with f at u d ≡ descriptor_bytes f q d
  unfolding names_of descriptor_with methods_with constants_with descriptor_bytes methods_bytes constants_bytes
  descriptor_plain u q (descriptor up ms ks g) h =
      let r = Placed-append at u q (map word (map method_name ms)) (map word (map constant_name ks)) (rw map-append at h) in
      let e = methods_over u q ms in
      let a = from_Placed R at method_name (λ k m. method_bytes f k m) (λ k ms. methods_bytes f k ms) (λ k. refl) (λ k m ms. refl) u q ms r.0 in
      let b = from_Placed R at constant_name (λ k c. constant_bytes k c) (λ k cs. constants_bytes k cs) (λ k. refl) (λ k c cs. refl) (u + length ms) (constants_from q ms) ks (Placed-at at _ _ _ _ (map word (map constant_name ks)) e.0 e.1 r.1) in
      λ i. bytes_of 2 (parent_number f up) ++ bytes_of 2 (length ms) ++ a i ++ bytes_of 2 (length ks) ++ b i ++ (g ∷ [])

  -- ---- the pool

  words_plain : (u : ℕ) (ws : List (List ℕ)) → pool_with f at always u (map word ws) ≡ run name_bytes ws
  unfolding pool_with run
  words_plain u [] = refl
  words_plain u (w ∷ ws) = λ i. always_bytes u w i ++ words_plain (u + 1) ws i

  own_plain : (u q : ℕ) (d : Option (Descriptor R)) → Placed at u q (own_pieces d) → pool_with f at always u (own_pieces d) ≡ own_bytes f q d
  unfolding own_pieces pool_with own_bytes names_from
  own_plain u q none h = refl
  own_plain u q (some d) h =
      let a = descriptor_plain u (q + descriptor_size d) d h in
      let b = words_plain u (names_of d) ∙ names_run d in
      λ i. a i ++ b i

  entry_plain : (u q : ℕ) (e : Entry R) → Placed at u q (entry_pieces e) → pool_with f at always u (entry_pieces e) ≡ entry_pool f q e
  unfolding entry_pieces entry_pool
  entry_plain u q (entry (key v w) i d) h =
      let r = Placed-append at u q (map word (key_words (key v w))) (own_pieces d) h in
      let e = key_over R u q v w in
      let a = words_plain u (key_words (key v w)) ∙ key-run v w in
      let b = own_plain _ _ d r.1 ∙ ap (λ (n : ℕ). own_bytes f n d) e in
      pool_append f at always u (map word (key_words (key v w))) (own_pieces d) ∙ (λ j. a j ++ b j)

  pool_plain : (u q : ℕ) (us : List (Entry R)) → Placed at u q (pieces_of us) → pool_with f at always u (pieces_of us) ≡ pool_bytes f q us
  unfolding pieces_of pool_with pool_bytes
  pool_plain u q [] h = refl
  pool_plain u q (e ∷ us) h =
      let r = Placed-append at u q (entry_pieces e) (pieces_of us) h in
      let a = entry_plain u q e r.0 in
      let b = pool_plain (u + length (words_in (entry_pieces e))) (q + pool_size always u (entry_pieces e)) us r.1 ∙ ap (λ (n : ℕ). pool_bytes f (q + n) us) (entry_over u e) in
      pool_append f at always u (entry_pieces e) (pieces_of us) ∙ (λ j. a j ++ b j)

-- ---- the directory

space_plain : (R : Type 0) (at : ℕ → ℕ) (u q : ℕ) (v : List ℕ) → Placed {R = R} at u q (map word (space_words v)) → space_pointer (at u) v ≡ space_pointer q v
unfolding space_words space_pointer
space_plain R at u q [] h = refl
space_plain R at u q (b ∷ v) h = h.0

module _ {R : Type 0} (at : ℕ → ℕ) where
  row_plain : (u q : ℕ) (e : Entry R) → Placed at u q (entry_pieces e) → entry_with at always u q e ≡ entry_bytes q e
  unfolding entry_pieces key_words entry_with own_after entry_bytes space_from
  row_plain u q (entry (key v w) j d) h =
      let r = (Placed-append at u q (map word (w ∷ space_words v)) (own_pieces d) h).0 in
      let a = space_plain R at (u + 1) (name_after q w) v r.1 in
      let b : q + stored_size always u (w ∷ space_words v) ≡ own_from q (key v w) = key_from u q v w in
      λ i. bytes_of 16 j ++ bytes_of 4 (r.0 i) ++ bytes_of 4 (a i) ++ bytes_of 4 (own_pointer (b i) d)

  directory_plain : (u q : ℕ) (us : List (Entry R)) → Placed at u q (pieces_of us) → directory_with at always u q us ≡ directory_bytes q us
  unfolding pieces_of directory_with directory_bytes
  directory_plain u q [] h = refl
  directory_plain u q (e ∷ us) h =
      let r = Placed-append at u q (entry_pieces e) (pieces_of us) h in
      let a = row_plain u q e r.0 in
      let n = ap length (entry_words_lem e) in
      let b = directory_plain (u + length (entry_words e)) (q + pool_size always u (entry_pieces e)) us (Placed-at at _ _ _ _ (pieces_of us) (ap (λ (n : ℕ). u + n) n) refl r.1) ∙ ap (λ (n : ℕ). directory_bytes (q + n) us) (entry_over u e) in
      λ i. a i ++ b i

-- ---- the file

pub plain_file_lem : {R : Type 0} (f : R → ℕ) (us : List (Entry R)) → file_with f (plain_at (pieces_of us)) always us ≡ plain_bytes f us
unfolding file_with plain_bytes
plain_file_lem f us =
    let h = plain_Placed (pieces_of us) in
    let a = plain_length_lem us in
    let b = directory_plain (plain_at (pieces_of us)) 0 1 us h in
    let c = pool_plain f (plain_at (pieces_of us)) 0 1 us h in
    λ i. header_bytes (normal_header us) (a i) ++ note_bytes ++ b i ++ c i

pub plain_same : (us : List (Entry Key)) → file_with (index_of (keys_of us)) (plain_at (pieces_of us)) always us ≡ plain_form us
unfolding plain_form
plain_same us = plain_file_lem (index_of (keys_of us)) us
