-- The pieces of entries, cut where their descriptors stand.
-- Assumes nothing.
use mathlib.Core.Path.{◌≡◌, refl, ap, ◌∙◌}
use mathlib.Core.Bool.{Bool}
use mathlib.Core.List.{List, [], ◌∷◌, ◌++◌, map, append_assoc}
use mathlib.Core.Option.{Option, none, some}
use Prim.Native.Nat.{ℕ, zero, suc, ◌+◌, ◌<◌}
use native.Mathlib.Omega.{arith}
use lib.ListN.{length, length-append}
use Rattle.reader.specs.Values.{Descriptor, Entry, entry, entry_key, entry_descriptor}
use Rattle.meaning.specs.Stock.Uses.{own_words, key_words, entry_words, words_of}
use Rattle.meaning.specs.Stock.Pool.{Piece, word, own_pieces, entry_pieces, pieces_of, words_in, pool_size}
use Rattle.meaning.specs.Stock.Form.{own_after}
use Rattle.meaning.proofs.Stock.Pools.{words_map, words_append, entry_words_lem, words_pieces, size_words, size_append}
use Rattle.places.specs.Noted.{body_use}
use Rattle.pooling.specs.Tabled.{own_of, own_place}
use Rattle.pooling.proofs.Come.{own_piece}

-- after the descriptor of entry i
unfoldable pub after : List (Entry ℕ) → ℕ → List (Piece ℕ)
after [] i = []
after (e ∷ us) zero = map word (own_words (entry_descriptor e)) ++ pieces_of us
after (e ∷ us) (suc i) = after us i

-- after those of the first i entries
unfoldable pub left : List (Entry ℕ) → ℕ → List (Piece ℕ)
left us zero = pieces_of us
left us (suc i) = after us i

map-append : (vs ws : List (List ℕ)) (ps : List (Piece ℕ)) → map word vs ++ (map word ws ++ ps) ≡ map word (vs ++ ws) ++ ps
map-append [] ws ps = refl
map-append (v ∷ vs) ws ps = λ i. word v ∷ map-append vs ws ps i

own_split : (d : Option (Descriptor ℕ)) (ps : List (Piece ℕ)) → own_pieces d ++ ps ≡ own_piece d ++ (map word (own_words d) ++ ps)
unfolding own_pieces own_piece own_words
own_split none ps = refl
own_split (some d) ps = refl

entry_cut : (e : Entry ℕ) (us : List (Entry ℕ)) → pieces_of (e ∷ us) ≡ map word (key_words (entry_key e)) ++ (own_piece (entry_descriptor e) ++ after (e ∷ us) 0)
unfolding pieces_of entry_pieces after entry_key entry_descriptor
entry_cut (entry k i d) us = append_assoc (map word (key_words k)) (own_pieces d) (pieces_of us) ∙ ap (λ (ps : List (Piece ℕ)). map word (key_words k) ++ ps) (own_split d (pieces_of us))

-- words, the descriptor of entry i, and what comes after it
pub record Cut (us : List (Entry ℕ)) (i : ℕ) : Type 0 where
  pub words : List (List ℕ)
  pub is : left us i ≡ map word words ++ (own_piece (own_of us i) ++ after us i)

pub cut : (us : List (Entry ℕ)) (i : ℕ) → i < length us → Cut us i
unfolding left after own_of
cut [] i l = absurd (omega arith)
cut (e ∷ us) zero l = record { words = key_words (entry_key e); is = entry_cut e us }
cut (e ∷ []) (suc i) l = absurd (omega arith)
cut (e ∷ (d ∷ us)) (suc zero) l = record {
  words = own_words (entry_descriptor e) ++ key_words (entry_key d);
  is =
      ap (λ (ps : List (Piece ℕ)). map word (own_words (entry_descriptor e)) ++ ps) (entry_cut d us)
      ∙ map-append (own_words (entry_descriptor e)) (key_words (entry_key d)) (own_piece (entry_descriptor d) ++ after (d ∷ us) 0);
}
cut (e ∷ (d ∷ us)) (suc (suc i)) l = let c = cut (d ∷ us) (suc i) (omega arith) in record { words = c.words; is = c.is }

-- only words come after the last descriptor
pub record Ending (us : List (Entry ℕ)) (i : ℕ) : Type 0 where
  pub words : List (List ℕ)
  pub is : left us i ≡ map word words ++ []

pub ending : (us : List (Entry ℕ)) (i : ℕ) → i ≡ length us → Ending us i
unfolding left after pieces_of
ending [] zero h = record { words = []; is = refl }
ending [] (suc i) h = absurd (omega arith)
ending (e ∷ us) zero h = absurd (omega arith)
ending (e ∷ []) (suc zero) h = record { words = own_words (entry_descriptor e); is = refl }
ending (e ∷ []) (suc (suc i)) h = absurd (omega arith)
ending (e ∷ (d ∷ us)) (suc zero) h = absurd (omega arith)
ending (e ∷ (d ∷ us)) (suc (suc i)) h = let c = ending (d ∷ us) (suc i) (omega arith) in record { words = c.words; is = c.is }

-- ---- uses and sizes before a descriptor

key_count : (e : Entry ℕ) → length (entry_words e) ≡ length (key_words (entry_key e)) + length (own_words (entry_descriptor e))
unfolding entry_words entry_key entry_descriptor
key_count (entry k i d) = length-append (key_words k) (own_words d)

pub after_uses : (us : List (Entry ℕ)) (i : ℕ) → i < length us → body_use us i + length (words_in (after us i)) ≡ length (words_of us)
unfolding body_use after words_of
after_uses [] i l = absurd (omega arith)
after_uses (e ∷ us) zero l =
    let own = own_words (entry_descriptor e) in
    omega (
      arith,
      ap length (words_append (map word own) (pieces_of us)),
      ap length (words_map ℕ own),
      length-append (words_in {R = ℕ} (map word own)) (words_in (pieces_of us)),
      ap length (words_pieces us),
      length-append (entry_words e) (words_of us),
      key_count e,
    )
after_uses (e ∷ us) (suc i) l = omega (arith, after_uses us i (omega arith), length-append (entry_words e) (words_of us))

pub after_size : (kept : ℕ → Bool) (us : List (Entry ℕ)) (u p i : ℕ) → i < length us
    → own_place kept u p us i + pool_size kept (u + body_use us i) (own_piece (own_of us i) ++ after us i) ≡ p + pool_size kept u (pieces_of us)
unfolding own_place body_use after own_of own_after pieces_of
after_size kept [] u p i l = absurd (omega arith)
after_size kept (e ∷ us) u p zero l =
    let k = key_words (entry_key e) in
    let more = own_piece (entry_descriptor e) ++ after (e ∷ us) 0 in
    let n = ap (λ (ws : List (List ℕ)). pool_size kept (u + length ws) more) (words_map ℕ k) in
    omega (arith, ap (pool_size kept u) (entry_cut e us), size_append kept u (map word k) more, size_words kept ℕ u k, n)
after_size kept (e ∷ us) u p (suc i) l =
    let v = u + length (entry_words e) in
    let z : v + body_use us i ≡ u + (length (entry_words e) + body_use us i) = omega arith in
    let n = ap (λ (ws : List (List ℕ)). pool_size kept (u + length ws) (pieces_of us)) (entry_words_lem e) in
    let m = ap (λ (k : ℕ). pool_size kept k (own_piece (own_of us i) ++ after us i)) z in
    omega (arith, after_size kept us v (p + pool_size kept u (entry_pieces e)) i (omega arith), m, n, size_append kept u (entry_pieces e) (pieces_of us))
