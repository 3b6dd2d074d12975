-- Keys whose words are noted.
-- Assumes nothing.
use mathlib.Core.Path.{◌≡◌, refl, sym, ap, ◌∙◌}
use mathlib.Core.Bool.{true, false}
use mathlib.Core.Logic.{inl, inr}
use mathlib.Core.List.{List, [], ◌∷◌}
use Prim.Native.Nat.{ℕ, ◌+◌, ◌-◌, ◌≤◌, ◌<◌}
use native.Mathlib.Omega.{arith}
use lib.ListN.{length, get_or, set, length-set}
use lib.Dec.{eqb}
use Rattle.number.specs.Limits.{file_limit}
use Rattle.number.proofs.Scans.{clash}
use Rattle.key.specs.Key.{Key, key, key_space, key_name}
use Rattle.key.specs.Pointer.{no_bytes}
use Rattle.key.proofs.Walks.{Leads-in, space_word, space_none}
use Rattle.names.proofs.Words.{word_here, word_there}
use Rattle.meaning.specs.Stock.Uses.{space_words, key_words}
use Rattle.gather.specs.Words.{Means, PutWords}
use Rattle.gather.specs.Leading.{SpaceLed, KeyLed}
use Rattle.gather.proofs.Words.{put_one, put_then}

-- ---- a namespace without bytes

module _ (pool other : List ℕ) (v : ℕ) (x : List ℕ) (s : SpaceLed pool other v x) where
  pub none_is : v ≡ 0 → true ≡ no_bytes x
  unfolding no_bytes
  none_is z = elim s [
    | inl e ↦ sym (ap no_bytes e.1)
    | inr m ↦ absurd (omega (arith, (m.led.here (omega arith)).from))
  ]

  module _ (n : v ≡ 0 → ⊥) where
    led : Means pool other v x
    led = elim s [ inl e ↦ absurd (n e.0) | inr m ↦ m ]

    pub here_in : v ≤ file_limit → v - 1 < length pool
    here_in l = Leads-in pool v (led.led.here l)

    pub here_is : v ≤ file_limit → eqb (get_or pool (v - 1) 0) 0 ≡ no_bytes x
    here_is l = space_none pool v (record { leads = λ _. led.led.here l }) n ∙ ap no_bytes (space_word pool v n ∙ word_here pool other v l ∙ led.word)

    pub there_in : file_limit < v → v - file_limit - 1 < length other
    there_in l = Leads-in other (v - file_limit) (led.led.there l)

    pub there_is : file_limit < v → eqb (get_or other (v - file_limit - 1) 0) 0 ≡ no_bytes x
    there_is l =
        let m : v - file_limit ≡ 0 → ⊥ = λ e. omega arith in
        space_none other (v - file_limit) (record { leads = λ _. led.led.there l }) m ∙ ap no_bytes (space_word other (v - file_limit) m ∙ word_there pool other v l ∙ led.word)

-- ---- one word or two

module _ (pool other : List ℕ) (w v : ℕ) (t : List ℕ) (u : ℕ) (l : u + 2 ≤ length t) where
  pub key_default : (k : Key) → KeyLed pool other w v k → no_bytes (key_space k) ≡ true → (u + 1 ≡ u + length (key_words k)) × PutWords (Means pool other) t (set t u w) u (key_words k)
  unfolding key_words space_words key_name key_space no_bytes
  key_default (key [] x) h e = (refl, put_one (Means pool other) t u w x (omega arith) h.name)
  key_default (key (b ∷ y) x) h e = clash true refl (sym e)

  pub key_spaced : (k : Key) → KeyLed pool other w v k → no_bytes (key_space k) ≡ false → (u + 2 ≡ u + length (key_words k)) × PutWords (Means pool other) t (set (set t u w) (u + 1) v) u (key_words k)
  unfolding key_words space_words key_name key_space no_bytes
  key_spaced (key [] x) h e = clash true refl e
  key_spaced (key (b ∷ y) x) h e = (
    refl,
    put_then (Means pool other) t (set t u w) (set (set t u w) (u + 1) v) u (u + 1) (x ∷ []) ((b ∷ y) ∷ []) refl (put_one (Means pool other) t u w x (omega arith) h.name)
        (put_one (Means pool other) (set t u w) (u + 1) v (b ∷ y) (simp length-set (omega arith)) (space h.space)),
  )
    where
      space : SpaceLed pool other v (b ∷ y) → Means pool other v (b ∷ y)
      space (inl f) = let z : length (b ∷ y) ≡ 0 = ap length f.1 in absurd (omega arith)
      space (inr m) = m

pub key_few : (k : Key) → length (key_words k) ≤ 2
unfolding key_words space_words
key_few (key [] x) = omega arith
key_few (key (b ∷ y) x) = omega arith
