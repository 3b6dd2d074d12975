-- The places of noted entries are the pool pointers of the form that stores each name once.
-- Assumes nothing.
use mathlib.Core.Path.{◌≡◌, refl, sym, ap, ◌∙◌}
use mathlib.Core.Bool.{Bool, true}
use mathlib.Core.Logic.{◌↔◌, inl, inr}
use mathlib.Core.List.{List, [], ◌∷◌}
use Prim.Native.Nat.{ℕ, zero, suc, ◌+◌, ◌≤◌, ◌<◌}
use native.Mathlib.Omega.{arith}
use lib.ListN.{length, get_or, length-append}
use Rattle.number.specs.Limits.{file_limit, row_limit}
use Rattle.number.specs.Choice.{when◌then◌else◌, ◌≤?◌, ◌=?◌}
use Rattle.number.proofs.Choice.{both, is_le, from_yes_le, yes_eq, from_yes_eq}
use Rattle.number.proofs.Scans.{below}
use Rattle.key.specs.Key.{key}
use Rattle.key.specs.First.{first_same, Filled}
use Rattle.key.proofs.Firsts.{first_le, first_ext}
use Rattle.reader.specs.Values.{Entry, entry, entry_key}
use Rattle.meaning.specs.Normal.Size.{name_size}
use Rattle.meaning.specs.Stock.Uses.{own_words, key_words, entry_words, words_of, use_key, first_use, at_first, kept_size}
use Rattle.meaning.specs.Stock.Pool.{pieces_of, pool_size, offset, once_at}
use Rattle.meaning.proofs.Stock.Pools.{words_pieces}
use Rattle.meaning.proofs.Stock.Stock.{first_use-le}
use Rattle.meaning.proofs.Stock.Leads.{kept_apart, first_kept}
use Rattle.names.specs.Uses.{spelling}
use Rattle.places.specs.Places.{up_to, stored_use, body_ahead, pointer_at, InOrder, use_place}
use Rattle.places.specs.Noted.{body_use, Noted}
use Rattle.places.proofs.Sums.{up_le, up_ext, up_rise}
use Rattle.places.proofs.Uses.{cap_low}
use Rattle.places.proofs.Pieces.{words_below, bodies_below, offset_below, pool_below, words_up, entry_ahead, bodies_up}

-- ---- descriptors stand in order

module _ {R : Type 0} where
  key_few : (e : Entry R) → length (key_words (entry_key e)) ≤ length (entry_words e)
  unfolding entry_key entry_words
  key_few (entry k i d) = rw (length-append (key_words k) (own_words d)) (omega arith)

  body_rise : (us : List (Entry R)) (i j : ℕ) → i < j → j < length us → body_use us i ≤ body_use us j
  unfolding body_use
  body_rise [] i j l m = absurd (omega arith)
  body_rise (e ∷ us) i zero l m = absurd (omega arith)
  body_rise (e ∷ us) zero (suc j) l m = omega (arith, key_few e)
  body_rise (e ∷ us) (suc i) (suc j) l m = omega (arith, body_rise us i j (omega arith) (omega arith))

  body_within : (us : List (Entry R)) (i : ℕ) → i < length us → body_use us i ≤ length (words_of us)
  unfolding body_use words_of
  body_within [] i l = absurd (omega arith)
  body_within (e ∷ us) zero l = rw (length-append (entry_words e) (words_of us)) (omega (arith, key_few e))
  body_within (e ∷ us) (suc i) l = rw (length-append (entry_words e) (words_of us)) (omega (arith, body_within us i (omega arith)))

-- ---- a larger use stands no earlier

ahead_rise : (before sizes : List ℕ) (k n i : ℕ) → k ≤ n → body_ahead before sizes k i ≤ body_ahead before sizes n i
unfolding body_ahead
ahead_rise before sizes k n i l =
    both (λ (x : ℕ). x ≤ body_ahead before sizes n i) (get_or before i 0 ≤? k) _ _
    (λ e. let z = is_le (get_or before i 0) n (get_or sizes i 0) 0 (omega (arith, from_yes_le (get_or before i 0) k e)) refl in omega arith) (λ _. omega arith)

pub pointer_rise : (pool other words before sizes : List ℕ) (c k n : ℕ) → k ≤ n → pointer_at pool other words before sizes c k ≤ pointer_at pool other words before sizes c n
unfolding pointer_at
pointer_rise pool other words before sizes c k n l =
    omega (arith, up_le (stored_use pool other words) k n l, up_rise (body_ahead before sizes k) (body_ahead before sizes n) c (λ i _. ahead_rise before sizes k n i l))

module _ {R : Type 0} (us : List (Entry R)) (pool other words before sizes : List ℕ) (n c : ℕ) (d : Noted us pool other words before sizes n c) where
  abbrev kept : ℕ → Bool
  kept = at_first (words_of us)

  pub in_order : c ≤ row_limit → InOrder before c n
  in_order h = record {
    few = h;
    rising = λ i j l m. rw (d.standing i (omega arith), d.standing j m) (body_rise us i j l (omega (arith, d.entries)));
    within = λ i l. rw (d.standing i l) (omega (arith, d.uses, body_within us i (omega (arith, d.entries))));
  }

  first_once : (u : ℕ) → u < n → first_same (spelling pool other words) u ≡ first_use (words_of us) u
  unfolding first_use spelling
  first_once u l = first_ext (spelling pool other words) (use_key (words_of us)) u (λ j h. ap (key []) (d.spelling j (omega arith)))

  stored_once : (k : ℕ) → k < n → kept_size kept k (get_or (words_of us) k []) ≡ stored_use pool other words k
  unfolding stored_use kept_size at_first
  stored_once k l =
      let f = first_once k l in
      let w = d.spelling k l in
      sym (λ i. when f i =? k then name_size (w i) else 0)

  words_once : (k : ℕ) → k ≤ n → words_below kept 0 (pieces_of us) k ≡ up_to (stored_use pool other words) k
  words_once k l =
      let p = words_pieces us in
      let z : 0 + k ≡ k = omega arith in
      ap (words_below kept 0 (pieces_of us)) (sym z)
      ∙ words_up kept (pieces_of us) (stored_use pool other words) 0 k (omega (arith, d.uses, ap length p)) (λ i m.
      let y : 0 + i ≡ i = omega arith in
      rw (y, p) (stored_once i (omega (arith, d.uses, ap length p))))

  ahead_once : (k i : ℕ) → i < c → entry_ahead us 0 k i ≡ body_ahead before sizes k i
  unfolding entry_ahead body_ahead
  ahead_once k i l =
      let z : 0 + body_use us i ≡ body_use us i = omega arith in
      rw (z, d.standing i l, d.taking i l)

  bodies_once : (k : ℕ) → bodies_below 0 (pieces_of us) k ≡ up_to (body_ahead before sizes k) c
  bodies_once k = bodies_up us 0 k ∙ rw (← d.entries) (up_ext (entry_ahead us 0 k) (body_ahead before sizes k) c (ahead_once k))

  pointer_once : (k : ℕ) → k < n → pointer_at pool other words before sizes c k ≡ 1 + offset kept 0 0 (pieces_of us) k
  unfolding pointer_at
  pointer_once k l =
      omega (arith, words_once k (omega arith), bodies_once k, offset_below kept (pieces_of us) 0 0 k (omega arith) (omega (arith, d.uses, ap length (words_pieces us))))

  -- past the last piece
  pub end_once : pointer_at pool other words before sizes c n ≡ 1 + pool_size kept 0 (pieces_of us)
  unfolding pointer_at
  end_once = omega (arith, words_once n (omega arith), bodies_once n, pool_below kept (pieces_of us) 0 n (omega (arith, d.uses, ap length (words_pieces us))))

  once_at_lem : (u : ℕ) → u < n → pointer_at pool other words before sizes c (first_same (spelling pool other words) u) ≡ once_at (pieces_of us) u
  unfolding once_at
  once_at_lem u l =
      let f = first_once u l in
      pointer_once (first_same (spelling pool other words) u) (omega (arith, first_le (spelling pool other words) u))
      ∙ rw (words_pieces us, f)

  -- where all of it is in the limit, each place is the pool pointer
  pub places_once : (places : List ℕ) → pointer_at pool other words before sizes c n ≤ file_limit → Filled places n (use_place pool other words before sizes c) → Filled places n (once_at (pieces_of us))
  unfolding use_place
  places_once places h f = record {
    long = f.long;
    held = λ u l.
        let k = first_same (spelling pool other words) u in
        let m = pointer_rise pool other words before sizes c k n (omega (arith, first_le (spelling pool other words) u)) in
        f.held u l ∙ sym (cap_low (pointer_at pool other words before sizes c k) (omega arith)) ∙ once_at_lem u l;
  }

-- ---- what is written where a use comes

-- the word of use u is stored exactly when its pointer is the place that was come to: that of an earlier use is less
pub stored_here : {R : Type 0} (us : List (Entry R)) (u : ℕ) → u < length (words_of us)
    → (once_at (pieces_of us) u ≡ 1 + offset (at_first (words_of us)) 0 0 (pieces_of us) u) ↔ (at_first (words_of us) u ≡ true)
unfolding once_at at_first
stored_here us u l = rw (words_pieces us) (
  λ e. elim (below (first_use (words_of us) u) u (first_use-le (words_of us) u)) [
    | inl a ↦ yes_eq _ _ a
    | inr a ↦ absurd (omega (arith, earlier a))
  ],
  λ e. ap (λ (k : ℕ). 1 + offset (at_first (words_of us)) 0 0 (pieces_of us) k) (from_yes_eq _ _ e),
)
  where
    earlier : first_use (words_of us) u < u → offset (at_first (words_of us)) 0 0 (pieces_of us) (first_use (words_of us) u) < offset (at_first (words_of us)) 0 0 (pieces_of us) u
    earlier a = kept_apart (at_first (words_of us)) (pieces_of us) 0 0 (first_use (words_of us) u) u (omega arith) a (omega (arith, ap length (words_pieces us))) (first_kept (words_of us) u)
