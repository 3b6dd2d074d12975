-- Every use leads to its word: all that reading back asks of the names, whichever words are stored.
-- Assumes nothing.
use mathlib.Core.Path.{◌≡◌, refl, sym, ap, ◌∙◌}
use mathlib.Core.Bool.{Bool, true}
use mathlib.Core.Logic.{◌↔◌, inl, inr}
use mathlib.Core.List.{List, [], ◌∷◌, ◌++◌}
use Prim.Native.Nat.{ℕ, suc, ◌+◌, ◌-◌, ◌≤◌, ◌<◌}
use native.Mathlib.Omega.{arith}
use native.Mathlib.Decide.{ℕ_discrete}
use lib.ListN.{length, get_or}
use Rattle.number.proofs.Choice.{is_eq, no_eq, yes_eq}
use Rattle.key.proofs.Orders.{three}
use Rattle.reader.specs.Values.{Entry}
use Rattle.meaning.specs.Normal.Size.{descriptor_size, name_size}
use Rattle.meaning.specs.Normal.Record.{name_bytes}
use Rattle.meaning.proofs.Normal.From.{From, From-left, From-right, From-at}
use Rattle.meaning.specs.Stock.Uses.{words_of, first_use, at_first, kept_size}
use Rattle.meaning.specs.Stock.Pool.{Piece, word, body, pieces_of, words_in, offset, once_at}
use Rattle.meaning.specs.Stock.Form.{descriptor_with, kept_bytes, pool_with}
use Rattle.meaning.proofs.Stock.Stock.{word_first, first_first_use, first_use-le, same_first}
use Rattle.meaning.proofs.Stock.Pools.{words_pieces, kept_size_lem, kept_bytes_lem}
use Rattle.meaning.proofs.Stock.Lengths.{length_kept, length_descriptor}

-- from its pool pointer on, the pool s has the bytes of the word and a zero byte; u is the first use
abbrev pub LeadsAll : List ℕ → (ℕ → ℕ) → ℕ → List (List ℕ) → Type 0
LeadsAll s at u [] = Unit {0}
LeadsAll s at u (w ∷ ws) = (1 ≤ at u) × From s (at u - 1) (name_bytes w) × LeadsAll s at (u + 1) ws

module _ (s : List ℕ) (at : ℕ → ℕ) where
  pub led_at : (u v : ℕ) (ws : List (List ℕ)) → u ≡ v → LeadsAll s at u ws → LeadsAll s at v ws
  led_at u v ws e h = rw (← e) h

  pub led_append : (u : ℕ) (vs ws : List (List ℕ)) → LeadsAll s at u (vs ++ ws) → LeadsAll s at u vs × LeadsAll s at (u + length vs) ws
  led_append u [] ws h = (tt, led_at u (u + 0) ws (omega arith) h)
  led_append u (v ∷ vs) ws h =
      let r = led_append (u + 1) vs ws h.2 in
      ((h.0, h.1, r.0), led_at (u + 1 + length vs) (u + length (v ∷ vs)) ws (omega arith) r.1)

  led_all : (u : ℕ) (ws : List (List ℕ)) → ((k : ℕ) → k < length ws → (1 ≤ at (u + k)) × From s (at (u + k) - 1) (name_bytes (get_or ws k []))) → LeadsAll s at u ws
  led_all u [] h = tt
  led_all u (w ∷ ws) h =
      let z : u + 0 ≡ u = omega arith in
      let a = rw z at (h 0 (omega arith)) in
      (a.0, a.1, led_all (u + 1) ws (λ k l. let e : u + 1 + k ≡ u + suc k = omega arith in rw e (h (suc k) (omega arith))))

-- ---- where a stored word lies

module _ {R : Type 0} (kept : ℕ → Bool) where
  module _ (f : R → ℕ) (at : ℕ → ℕ) (s : List ℕ) where
    kept_From : (ps : List (Piece R)) (u q k : ℕ) → u ≤ k → k < u + length (words_in ps) → kept k ≡ true
        → From s q (pool_with f at kept u ps) → From s (offset kept u q ps k) (name_bytes (get_or (words_in ps) (k - u) []))
    unfolding pool_with offset words_in
    kept_From [] u q k l m t h = absurd (omega arith)
    kept_From (word w ∷ ps) u q k l m t h = elim (ℕ_discrete k u) [
      | yes e ↦
          let a = From-left s q (kept_bytes kept u w) (pool_with f at kept (u + 1) ps) h in
          let z : k - u ≡ 0 = omega arith in
          let b : kept_bytes kept u w ≡ name_bytes w = kept_bytes_lem kept u w (rw e at t) in
          rw (z, ← is_eq k u q _ e refl) (rw b at a)
      | no g ↦
          let a = From-right s q (kept_bytes kept u w) (pool_with f at kept (u + 1) ps) h in
          let n = length_kept kept u w in
          let b = From-at s (q + length (kept_bytes kept u w)) (q + kept_size kept u w) (pool_with f at kept (u + 1) ps) (omega arith) a in
          let c = kept_From ps (u + 1) (q + kept_size kept u w) k (omega arith) (omega arith) t b in
          let z : k - u ≡ suc (k - (u + 1)) = omega arith in
          rw (z, ← no_eq k u q (offset kept (u + 1) (q + kept_size kept u w) ps k) g refl) c
    ]
    kept_From (body d ∷ ps) u q k l m t h =
        let a = From-right s q (descriptor_with f at u d) (pool_with f at kept u ps) h in
        kept_From ps u (q + descriptor_size d) k l m t (From-at s (q + length (descriptor_with f at u d)) (q + descriptor_size d) (pool_with f at kept u ps) (omega (arith, length_descriptor f at u d)) a)

  -- no piece lies before the first
  offset_low : (ps : List (Piece R)) (u q k : ℕ) → q ≤ offset kept u q ps k
  unfolding offset
  offset_low [] u q k = omega arith
  offset_low (word w ∷ ps) u q k = elim (ℕ_discrete k u) [
    | yes e ↦ rw (← is_eq k u q (offset kept (u + 1) (q + kept_size kept u w) ps k) e refl) (omega arith)
    | no g ↦ rw (← no_eq k u q (offset kept (u + 1) (q + kept_size kept u w) ps k) g refl) (omega (arith, offset_low ps (u + 1) (q + kept_size kept u w) k))
  ]
  offset_low (body d ∷ ps) u q k = omega (arith, offset_low ps u (q + descriptor_size d) k)

  -- a stored word lies before what follows it
  pub kept_apart : (ps : List (Piece R)) (u q j k : ℕ) → u ≤ j → j < k → j < u + length (words_in ps) → kept j ≡ true → offset kept u q ps j < offset kept u q ps k
  unfolding offset words_in name_size
  kept_apart [] u q j k l m n t = absurd (omega arith)
  kept_apart (word w ∷ ps) u q j k l m n t =
      let q1 = q + kept_size kept u w in
      rw (← no_eq k u q (offset kept (u + 1) q1 ps k) (λ e. omega arith) refl) (elim (ℕ_discrete j u) [
        | yes e ↦ rw (← is_eq j u q (offset kept (u + 1) q1 ps j) e refl) (omega (arith, kept_size_lem kept u w (rw e at t), offset_low ps (u + 1) q1 k))
        | no g ↦ rw (← no_eq j u q (offset kept (u + 1) q1 ps j) g refl) (kept_apart ps (u + 1) q1 j k (omega arith) m (omega arith) t)
      ])
  kept_apart (body d ∷ ps) u q j k l m n t = kept_apart ps u (q + descriptor_size d) j k l m n t

-- ---- each word once

pub first_kept : (ws : List (List ℕ)) (u : ℕ) → at_first ws (first_use ws u) ≡ true
unfolding at_first
first_kept ws u = yes_eq _ _ (first_first_use ws u)

module _ {R : Type 0} (ps : List (Piece R)) where
  abbrev W : List (List ℕ)
  W = words_in ps

  pub once_led : (f : R → ℕ) (at : ℕ → ℕ) (s : List ℕ) → From s 0 (pool_with f at (at_first W) 0 ps) → LeadsAll s (once_at ps) 0 W
  unfolding once_at
  once_led f at s h = led_all s (once_at ps) 0 W (λ u l.
      let e : 0 + u ≡ u = omega arith in
      let k = first_use W u in
      let z : k - 0 ≡ k = omega arith in
      let q = offset (at_first W) 0 0 ps k in
      let n : 1 + q - 1 ≡ q = omega arith in
      let a = kept_From (at_first W) f at s ps 0 0 k (omega arith) (omega (arith, first_use-le W u)) (first_kept W u) h in
      rw e (omega arith, rw n (rw (z, word_first W u) at a)))

  before : (u v : ℕ) → u < length W → first_use W u < first_use W v → once_at ps u ≡ once_at ps v → ⊥
  unfolding once_at
  before u v l m e = omega (arith, kept_apart (at_first W) ps 0 0 (first_use W u) (first_use W v) (omega arith) m (omega (arith, first_use-le W u)) (first_kept W u))

  -- two uses have one pointer exactly when they are of one word
  pub once_shared : (u v : ℕ) → u < length W → v < length W → (once_at ps u ≡ once_at ps v) ↔ (get_or W u [] ≡ get_or W v [])
  unfolding once_at
  once_shared u v l m = (
    λ e. elim (three (first_use W u) (first_use W v)) [
      | inl a ↦ absurd (before u v l a e)
      | inr (inl a) ↦ sym (word_first W u) ∙ ap (λ (k : ℕ). get_or W k []) a ∙ word_first W v
      | inr (inr a) ↦ absurd (before v u m a (sym e))
    ],
    λ e. ap (λ (k : ℕ). 1 + offset (at_first W) 0 0 ps k) (same_first W u v e),
  )

pub shared : {R : Type 0} (us : List (Entry R)) (u v : ℕ) → u < length (words_of us) → v < length (words_of us)
    → (once_at (pieces_of us) u ≡ once_at (pieces_of us) v) ↔ (get_or (words_of us) u [] ≡ get_or (words_of us) v [])
shared us u v = rw (words_pieces us) at (once_shared (pieces_of us) u v)
