-- The pieces of a pool: their words are the uses of the entries, and what they take is the descriptors and the words that are stored.
-- Assumes nothing.
use mathlib.Core.Path.{◌≡◌, refl, sym, ap, ◌∙◌}
use mathlib.Core.Bool.{Bool, true}
use mathlib.Core.List.{List, [], ◌∷◌, ◌++◌, map, append_assoc}
use mathlib.Core.Option.{Option, none, some}
use Prim.Native.Nat.{ℕ, ◌+◌, ◌*◌}
use native.Mathlib.Omega.{arith}
use lib.ListN.{length}
use Rattle.number.proofs.Choice.{is_true}
use Rattle.reader.specs.Values.{Descriptor, Entry, entry}
use Rattle.meaning.proofs.Facts.Sets.{weigh}
use Rattle.meaning.specs.Normal.Size.{sum, descriptor_size, name_size, plain_length}
use Rattle.meaning.specs.Normal.Record.{name_bytes}
use Rattle.meaning.specs.Stock.Uses.{names_of, own_words, key_words, entry_words, words_of, always, at_first, kept_size, stored_size, stock_size, own_body, body_length, normal_length}
use Rattle.meaning.specs.Stock.Pool.{Piece, word, body, own_pieces, entry_pieces, pieces_of, words_in, pool_size}
use Rattle.meaning.specs.Stock.Form.{descriptor_with, kept_bytes, pool_with, length_with}
use Rattle.meaning.proofs.Stock.Grows.{words_weigh}

-- ---- words

pub words_map : (R : Type 0) (ws : List (List ℕ)) → words_in {R = R} (map word ws) ≡ ws
unfolding words_in
words_map R [] = refl
words_map R (w ∷ ws) = λ i. w ∷ words_map R ws i

module _ {R : Type 0} where
  pub words_append : (ps qs : List (Piece R)) → words_in (ps ++ qs) ≡ words_in ps ++ words_in qs
  unfolding words_in
  words_append [] qs = refl
  words_append (word w ∷ ps) qs = λ i. w ∷ words_append ps qs i
  words_append (body d ∷ ps) qs = words_append ps qs

  own_words_lem : (d : Option (Descriptor R)) → words_in (own_pieces d) ≡ own_words d
  unfolding own_pieces own_words words_in
  own_words_lem none = refl
  own_words_lem (some d) = words_map R (names_of d)

  pub entry_words_lem : (u : Entry R) → words_in (entry_pieces u) ≡ entry_words u
  unfolding entry_pieces entry_words
  entry_words_lem (entry k i d) = words_append (map word (key_words k)) (own_pieces d) ∙ (λ j. words_map R (key_words k) j ++ own_words_lem d j)

  pub words_pieces : (us : List (Entry R)) → words_in (pieces_of us) ≡ words_of us
  unfolding pieces_of words_of words_in
  words_pieces [] = refl
  words_pieces (u ∷ us) = words_append (entry_pieces u) (pieces_of us) ∙ (λ j. entry_words_lem u j ++ words_pieces us j)

-- ---- a word that is stored

module _ (kept : ℕ → Bool) (u : ℕ) (w : List ℕ) (y : kept u ≡ true) where
  pub kept_size_lem : kept_size kept u w ≡ name_size w
  unfolding kept_size
  kept_size_lem = sym (is_true (kept u) (name_size w) 0 y refl)

  pub kept_bytes_lem : kept_bytes kept u w ≡ name_bytes w
  unfolding kept_bytes
  kept_bytes_lem = sym (is_true (kept u) (name_bytes w) [] y refl)

-- ---- sizes

module _ (kept : ℕ → Bool) where
  pub stored_append : (u : ℕ) (vs ws : List (List ℕ)) → stored_size kept u (vs ++ ws) ≡ stored_size kept u vs + stored_size kept (u + length vs) ws
  unfolding stored_size
  stored_append u [] ws = let e : u ≡ u + 0 = omega arith in ap (λ (k : ℕ). stored_size kept k ws) e ∙ omega arith
  stored_append u (v ∷ vs) ws =
      let e : u + 1 + length vs ≡ u + length (v ∷ vs) = omega arith in
      omega (arith, stored_append (u + 1) vs ws, ap (λ (k : ℕ). stored_size kept k ws) e)

  pub size_words : (R : Type 0) (u : ℕ) (ws : List (List ℕ)) → pool_size {R = R} kept u (map word ws) ≡ stored_size kept u ws
  unfolding pool_size stored_size
  size_words R u [] = refl
  size_words R u (w ∷ ws) = λ i. kept_size kept u w + size_words R (u + 1) ws i

  module _ {R : Type 0} where
    pub size_append : (u : ℕ) (ps qs : List (Piece R)) → pool_size kept u (ps ++ qs) ≡ pool_size kept u ps + pool_size kept (u + length (words_in ps)) qs
    unfolding pool_size words_in
    size_append u [] qs = let e : u ≡ u + 0 = omega arith in ap (λ (k : ℕ). pool_size kept k qs) e ∙ omega arith
    size_append u (word w ∷ ps) qs =
        let e : u + 1 + length (words_in ps) ≡ u + length (w ∷ words_in ps) = omega arith in
        omega (arith, size_append (u + 1) ps qs, ap (λ (k : ℕ). pool_size kept k qs) e)
    size_append u (body d ∷ ps) qs = omega (arith, size_append u ps qs)

    own_size_lem : (u : ℕ) (d : Option (Descriptor R)) → pool_size kept u (own_pieces d) ≡ own_body d + stored_size kept u (own_words d)
    unfolding own_pieces own_body own_words pool_size stored_size
    own_size_lem u none = refl
    own_size_lem u (some d) = λ i. descriptor_size d + size_words R u (names_of d) i

    -- an entry: its descriptor, and what is stored of its words
    pub entry_size_lem : (u : ℕ) (e : Entry R) → 28 + pool_size kept u (entry_pieces e) ≡ body_length e + stored_size kept u (entry_words e)
    unfolding entry_pieces entry_words body_length
    entry_size_lem u (entry k i d) =
        let n = ap length (words_map R (key_words k)) in
        let at = ap (λ (n : ℕ). pool_size kept (u + n) (own_pieces d)) n in
        omega (
          arith,
          size_append u (map word (key_words k)) (own_pieces d),
          size_words R u (key_words k),
          at,
          own_size_lem (u + length (key_words k)) d,
          stored_append u (key_words k) (own_words d),
        )

    pieces_size : (u : ℕ) (us : List (Entry R)) → 28 * length us + pool_size kept u (pieces_of us) ≡ sum body_length us + stored_size kept u (words_of us)
    unfolding pieces_of words_of pool_size stored_size sum
    pieces_size u [] = refl
    pieces_size u (e ∷ us) =
        let n = ap length (entry_words_lem e) in
        let at = ap (λ (n : ℕ). pool_size kept (u + n) (pieces_of us)) n in
        omega (arith, size_append u (entry_pieces e) (pieces_of us), entry_size_lem u e, at, pieces_size (u + length (entry_words e)) us, stored_append u (entry_words e) (words_of us))

    -- a file: its parts apart from names, and what is stored of the words
    pub length_uses : (us : List (Entry R)) → length_with kept us ≡ 36 + sum body_length us + stored_size kept 0 (words_of us)
    unfolding length_with
    length_uses us = omega (arith, pieces_size 0 us)

pub always_size : (u : ℕ) (w : List ℕ) → kept_size always u w ≡ name_size w
unfolding always
always_size u w = kept_size_lem always u w refl

pub always_stored : (u : ℕ) (ws : List (List ℕ)) → stored_size always u ws ≡ weigh name_size ws
unfolding stored_size
always_stored u [] = refl
always_stored u (w ∷ ws) = omega (arith, always_size u w, always_stored (u + 1) ws)

module _ {R : Type 0} where
  pub normal_length_lem : (us : List (Entry R)) → length_with (at_first (words_of us)) us ≡ normal_length us
  unfolding normal_length stock_size
  normal_length_lem us = length_uses (at_first (words_of us)) us

  pub plain_length_lem : (us : List (Entry R)) → length_with always us ≡ plain_length us
  unfolding plain_length
  plain_length_lem us = omega (arith, length_uses always us, always_stored 0 (words_of us), words_weigh us)

-- ---- bytes

module _ {R : Type 0} (f : R → ℕ) (at : ℕ → ℕ) (kept : ℕ → Bool) where
  pub pool_append : (u : ℕ) (ps qs : List (Piece R)) → pool_with f at kept u (ps ++ qs) ≡ pool_with f at kept u ps ++ pool_with f at kept (u + length (words_in ps)) qs
  unfolding pool_with words_in
  pool_append u [] qs = let e : u ≡ u + 0 = omega arith in ap (λ (k : ℕ). pool_with f at kept k qs) e
  pool_append u (word w ∷ ps) qs =
      let e : u + 1 + length (words_in ps) ≡ u + length (w ∷ words_in ps) = omega arith in
      let a = pool_append (u + 1) ps qs ∙ ap (λ (k : ℕ). pool_with f at kept (u + 1) ps ++ pool_with f at kept k qs) e in
      ap (λ (t : List ℕ). kept_bytes kept u w ++ t) a ∙ sym (append_assoc (kept_bytes kept u w) (pool_with f at kept (u + 1) ps) (pool_with f at kept (u + length (w ∷ words_in ps)) qs))
  pool_append u (body d ∷ ps) qs =
      ap (λ (t : List ℕ). descriptor_with f at u d ++ t) (pool_append u ps qs) ∙ sym (append_assoc (descriptor_with f at u d) (pool_with f at kept u ps) (pool_with f at kept (u + length (words_in ps)) qs))
