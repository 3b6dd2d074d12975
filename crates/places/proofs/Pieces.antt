-- Where a stored word lies among the pieces of a pool: after the words that are stored before it, and the bodies that stand before it.
-- Assumes nothing.
use mathlib.Core.Path.{◌≡◌, refl, sym, ap, ◌∙◌}
use mathlib.Core.Bool.{Bool}
use mathlib.Core.List.{List, [], ◌∷◌, ◌++◌, map}
use mathlib.Core.Option.{Option, none, some}
use Prim.Native.Nat.{ℕ, zero, suc, ◌+◌, ◌≤◌, ◌<◌}
use native.Mathlib.Omega.{arith}
use native.Mathlib.Decide.{ℕ_discrete}
use lib.ListN.{length, get_or}
use Rattle.number.specs.Choice.{when◌then◌else◌, ◌<?◌, ◌≤?◌}
use Rattle.number.proofs.Choice.{is_lt, no_lt, is_le, no_le, is_eq, no_eq, both}
use Rattle.reader.specs.Values.{Descriptor, Entry, entry, entry_key, entry_descriptor}
use Rattle.meaning.specs.Normal.Size.{descriptor_size}
use Rattle.meaning.specs.Stock.Uses.{names_of, key_words, entry_words, kept_size, own_body}
use Rattle.meaning.specs.Stock.Pool.{Piece, word, body, own_pieces, entry_pieces, pieces_of, words_in, pool_size, offset}
use Rattle.meaning.proofs.Stock.Pools.{words_map, entry_words_lem}
use Rattle.places.specs.Places.{up_to}
use Rattle.places.specs.Noted.{body_use, body_size}
use Rattle.places.proofs.Sums.{up_shift, up_ext}

module _ {R : Type 0} where
  -- what is stored of the uses below k, u being the first of the pieces
  unfoldable pub words_below : (ℕ → Bool) → ℕ → List (Piece R) → ℕ → ℕ
  words_below kept u [] k = 0
  words_below kept u (word w ∷ ps) k = (when u <? k then kept_size kept u w else 0) + words_below kept (u + 1) ps k
  words_below kept u (body d ∷ ps) k = words_below kept u ps k

  -- what the bodies take that stand before the word of use k
  unfoldable pub bodies_below : ℕ → List (Piece R) → ℕ → ℕ
  bodies_below u [] k = 0
  bodies_below u (word w ∷ ps) k = bodies_below (u + 1) ps k
  bodies_below u (body d ∷ ps) k = (when u ≤? k then descriptor_size d else 0) + bodies_below u ps k

  bodies_none : (ps : List (Piece R)) (u k : ℕ) → k < u → bodies_below u ps k ≡ 0
  unfolding bodies_below
  bodies_none [] u k l = refl
  bodies_none (word w ∷ ps) u k l = bodies_none ps (u + 1) k (omega arith)
  bodies_none (body d ∷ ps) u k l =
      let e : 0 ≡ (when u ≤? k then descriptor_size d else 0) = no_le u k _ _ l refl in
      omega (arith, bodies_none ps u k l)

  module _ (kept : ℕ → Bool) where
    words_none : (ps : List (Piece R)) (u k : ℕ) → k ≤ u → words_below kept u ps k ≡ 0
    unfolding words_below
    words_none [] u k l = refl
    words_none (word w ∷ ps) u k l =
        let e : 0 ≡ (when u <? k then kept_size kept u w else 0) = no_lt u k _ _ l refl in
        omega (arith, words_none ps (u + 1) k (omega arith))
    words_none (body d ∷ ps) u k l = words_none ps u k l

    pub offset_below : (ps : List (Piece R)) (u q k : ℕ) → u ≤ k → k < u + length (words_in ps) → offset kept u q ps k ≡ q + words_below kept u ps k + bodies_below u ps k
    unfolding offset words_in words_below bodies_below
    offset_below [] u q k l m = absurd (omega arith)
    offset_below (word w ∷ ps) u q k l m = elim (ℕ_discrete k u) [
      | yes e ↦
          let z : 0 ≡ (when u <? k then kept_size kept u w else 0) = no_lt u k _ _ (omega arith) refl in
          sym (is_eq k u q _ e refl) ∙ omega (arith, words_none ps (u + 1) k (omega arith), bodies_none ps (u + 1) k (omega arith))
      | no g ↦
          let z : kept_size kept u w ≡ (when u <? k then kept_size kept u w else 0) = is_lt u k _ _ (omega arith) refl in
          sym (no_eq k u q _ g refl) ∙ omega (arith, offset_below ps (u + 1) (q + kept_size kept u w) k (omega arith) (omega arith))
    ]
    offset_below (body d ∷ ps) u q k l m =
        let z : descriptor_size d ≡ (when u ≤? k then descriptor_size d else 0) = is_le u k _ _ l refl in
        omega (arith, offset_below ps u (q + descriptor_size d) k l m)

    -- all of it
    pub pool_below : (ps : List (Piece R)) (u k : ℕ) → u + length (words_in ps) ≤ k → pool_size kept u ps ≡ words_below kept u ps k + bodies_below u ps k
    unfolding pool_size words_in words_below bodies_below
    pool_below [] u k l = refl
    pool_below (word w ∷ ps) u k l =
        let z : kept_size kept u w ≡ (when u <? k then kept_size kept u w else 0) = is_lt u k _ _ (omega arith) refl in
        omega (arith, pool_below ps (u + 1) k (omega arith))
    pool_below (body d ∷ ps) u k l =
        let z : descriptor_size d ≡ (when u ≤? k then descriptor_size d else 0) = is_le u k _ _ (omega arith) refl in
        omega (arith, pool_below ps u k l)

    -- words, one by one
    pub words_up : (ps : List (Piece R)) (f : ℕ → ℕ) (u m : ℕ) → m ≤ length (words_in ps) → ((i : ℕ) → i < length (words_in ps) → kept_size kept (u + i) (get_or (words_in ps) i []) ≡ f i)
        → words_below kept u ps (u + m) ≡ up_to f m
    unfolding words_in words_below up_to
    words_up [] f u m l h = let e : m ≡ 0 = omega arith in rw e
    words_up (word w ∷ ps) f u zero l h = words_none (word w ∷ ps) u (u + 0) (omega arith)
    words_up (word w ∷ ps) f u (suc m) l h =
        let z : kept_size kept u w ≡ (when u <? u + suc m then kept_size kept u w else 0) = is_lt u (u + suc m) _ _ (omega arith) refl in
        let y : u + 0 ≡ u = omega arith in
        let a : kept_size kept u w ≡ f 0 = ap (λ (k : ℕ). kept_size kept k w) (sym y) ∙ h 0 (omega arith) in
        let x : u + suc m ≡ u + 1 + m = omega arith in
        let b = words_up ps (λ i. f (suc i)) (u + 1) m (omega arith) (λ i k. let e : u + 1 + i ≡ u + suc i = omega arith in ap (λ (k : ℕ). kept_size kept k (get_or (words_in ps) i [])) e ∙ h (suc i) (omega arith)) in
        omega (arith, ap (words_below kept (u + 1) ps) x, up_shift f m)
    words_up (body d ∷ ps) f u m l h = words_up ps f u m l h

  -- ---- bodies, entry by entry

  bodies_append : (ps qs : List (Piece R)) (u k : ℕ) → bodies_below u (ps ++ qs) k ≡ bodies_below u ps k + bodies_below (u + length (words_in ps)) qs k
  unfolding bodies_below words_in
  bodies_append [] qs u k = let e : u ≡ u + 0 = omega arith in omega (arith, ap (λ (x : ℕ). bodies_below x qs k) e)
  bodies_append (word w ∷ ps) qs u k =
      let e : u + 1 + length (words_in ps) ≡ u + suc (length (words_in ps)) = omega arith in
      bodies_append ps qs (u + 1) k ∙ ap (λ (x : ℕ). bodies_below (u + 1) ps k + bodies_below x qs k) e
  bodies_append (body d ∷ ps) qs u k = omega (arith, bodies_append ps qs u k)

bodies_words : (R : Type 0) (ws : List (List ℕ)) (u k : ℕ) → bodies_below {R = R} u (map word ws) k ≡ 0
unfolding bodies_below
bodies_words R [] u k = refl
bodies_words R (w ∷ ws) u k = bodies_words R ws (u + 1) k

module _ {R : Type 0} where
  bodies_own : (d : Option (Descriptor R)) (u k : ℕ) → bodies_below u (own_pieces d) k ≡ (when u ≤? k then own_body d else 0)
  unfolding bodies_below own_pieces own_body
  bodies_own none u k = both (λ (x : ℕ). 0 ≡ x) (u ≤? k) 0 0 (λ _. refl) (λ _. refl)
  bodies_own (some d) u k = omega (arith, bodies_words R (names_of d) u k)

  bodies_entry : (e : Entry R) (u k : ℕ) → bodies_below u (entry_pieces e) k ≡ (when u + length (key_words (entry_key e)) ≤? k then own_body (entry_descriptor e) else 0)
  unfolding entry_pieces entry_key entry_descriptor
  bodies_entry (entry w i d) u k =
      let a = ap (λ (ws : List (List ℕ)). bodies_below (u + length ws) (own_pieces d) k) (words_map R (key_words w)) in
      omega (arith, bodies_append (map word (key_words w)) (own_pieces d) u k, bodies_words R (key_words w) u k, bodies_own d (u + length (key_words w)) k)

  -- the body of entry i, if it stands before the word of use k; u is the first use of the entries
  unfoldable pub entry_ahead : List (Entry R) → ℕ → ℕ → ℕ → ℕ
  entry_ahead us u k i = when u + body_use us i ≤? k then body_size us i else 0

  ahead_first : (e : Entry R) (us : List (Entry R)) (u k : ℕ) → (when u + length (key_words (entry_key e)) ≤? k then own_body (entry_descriptor e) else 0) ≡ entry_ahead (e ∷ us) u k 0
  unfolding entry_ahead body_use body_size
  ahead_first e us u k = refl

  ahead_next : (e : Entry R) (us : List (Entry R)) (u k i : ℕ) → entry_ahead us (u + length (entry_words e)) k i ≡ entry_ahead (e ∷ us) u k (suc i)
  unfolding entry_ahead body_use body_size
  ahead_next e us u k i =
      let z : u + length (entry_words e) + body_use us i ≡ u + (length (entry_words e) + body_use us i) = omega arith in
      ap (λ (x : ℕ). when x ≤? k then body_size us i else 0) z

  pub bodies_up : (us : List (Entry R)) (u k : ℕ) → bodies_below u (pieces_of us) k ≡ up_to (entry_ahead us u k) (length us)
  unfolding pieces_of bodies_below up_to
  bodies_up [] u k = refl
  bodies_up (e ∷ us) u k =
      let v = u + length (entry_words e) in
      let a = bodies_append (entry_pieces e) (pieces_of us) u k in
      let b = ap (λ (ws : List (List ℕ)). bodies_below (u + length ws) (pieces_of us) k) (entry_words_lem e) in
      let c = bodies_up us v k in
      let d = up_ext (entry_ahead us v k) (λ i. entry_ahead (e ∷ us) u k (suc i)) (length us) (λ i l. ahead_next e us u k i) in
      omega (arith, bodies_entry e u k, ahead_first e us u k, up_shift (entry_ahead (e ∷ us) u k) (length us))
