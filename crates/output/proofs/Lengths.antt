-- A file's length, from what its tables tell.
-- Assumes nothing.
use Rattle.std.specs.Prelude.{None, Option, Some, ℕ}
use mathlib.Core.Path.{◌≡◌, sym, ◌∙◌}
use mathlib.Core.List.{List}
use Prim.Native.Nat.{ℕ, ◌+◌, ◌*◌, ◌≤◌, ◌<◌}
use native.Mathlib.Omega.{arith}
use lib.ListN.{length}
use Rattle.number.specs.Limits.{file_limit}
use Rattle.key.specs.First.{Filled}
use Rattle.reader.specs.Values.{Entry}
use Rattle.meaning.specs.Normal.Size.{sum}
use Rattle.names.specs.Uses.{Spelt}
use Rattle.meaning.specs.Stock.Uses.{words_of, at_first, body_length, normal_length}
use Rattle.meaning.specs.Stock.Pool.{pieces_of, pool_size}
use Rattle.meaning.specs.Stock.Form.{length_with}
use Rattle.meaning.proofs.Stock.Pools.{normal_length_lem}
use Rattle.places.specs.Places.{pointer_at, use_place, InOrder}
use Rattle.places.proofs.Once.{end_once, places_once}
use Rattle.gather.specs.Leading.{Leading, LedEntries, Gathered, Answered}
use Rattle.output.specs.declared.Measured.{Measured}
use Rattle.output.specs.Measures.{Measures}

pub length_parts : (us : List (Entry ℕ)) → normal_length us ≡ 36 + 28 * length us + pool_size (at_first (words_of us)) 0 (pieces_of us)
unfolding length_with
length_parts us = sym (normal_length_lem us)

long_bodies : (us : List (Entry ℕ)) → file_limit < 36 + sum body_length us → file_limit < normal_length us
unfolding normal_length
long_bodies us h = omega arith

module _ (pool other names spaces bodies words starts before sizes : List ℕ) (c : ℕ) (r : Option ℕ)
    (told : (n : ℕ) (us : List (Entry ℕ)) → Leading pool other n names spaces bodies us c → Answered us pool other words starts before sizes c r) where
  -- too long without names
  pub over-Measures : r ≡ None → (places : List ℕ) (z : Measured) → z.size ≡ file_limit + 1 → (n : ℕ) (us : List (Entry ℕ)) → Leading pool other n names spaces bodies us c → Measures us pool other words starts before sizes places c z
  over-Measures e places z s n us l =
      let h : file_limit < 36 + sum body_length us = rw e at (told n us l) in
      record { over = λ _. long_bodies us h; size = λ k. absurd (omega arith); gathered = λ k. absurd (omega arith); placed = λ k. absurd (omega arith) }

  module _ (m : ℕ) (e : r ≡ Some m) where
    gathered : (n : ℕ) (us : List (Entry ℕ)) → Leading pool other n names spaces bodies us c → Gathered us pool other words starts before sizes m c
    gathered n us l = rw e at (told n us l)

    pub spelt : LedEntries pool other names spaces bodies c → Spelt pool other words m
    spelt h = (gathered h.rows h.entries h.leading).spelt

    pub in_order : LedEntries pool other names spaces bodies c → InOrder before c m
    in_order h = (gathered h.rows h.entries h.leading).order

    module _ (end : ℕ) (f : end ≡ pointer_at pool other words before sizes c m) where
      length_is : (us : List (Entry ℕ)) → Gathered us pool other words starts before sizes m c → 35 + 28 * c + end ≡ normal_length us
      length_is us g = omega (arith, f, end_once us pool other words before sizes m c g.noted, length_parts us, g.noted.entries)

      -- too long, or as long as it ends
      pub past_Measures : file_limit < end → (places : List ℕ) (z : Measured) → z.size ≡ file_limit + 1 → (n : ℕ) (us : List (Entry ℕ)) → Leading pool other n names spaces bodies us c → Measures us pool other words starts before sizes places c z
      past_Measures b places z s n us l =
          let d = length_is us (gathered n us l) in
          record { over = λ _. omega arith; size = λ k. absurd (omega arith); gathered = λ k. absurd (omega arith); placed = λ k. absurd (omega arith) }

      pub all_Measures : end ≤ file_limit → (places : List ℕ) → Filled places m (use_place pool other words before sizes c) → (z : Measured) → z.uses ≡ m → z.size ≡ 35 + 28 * c + end
          → (n : ℕ) (us : List (Entry ℕ)) → Leading pool other n names spaces bodies us c → Measures us pool other words starts before sizes places c z
      all_Measures b places p z u s n us l =
          let g = gathered n us l in
          let d = length_is us g in
          record {
            over = λ k. omega arith;
            size = λ _. s ∙ d;
            gathered = λ _. rw u g;
            placed = λ _. rw u (places_once us pool other words before sizes m c g.noted places (omega (arith, f)) p);
          }
