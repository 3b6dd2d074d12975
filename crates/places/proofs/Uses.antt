-- Uses laid one after another.
-- Assumes nothing.
use mathlib.Core.Path.{◌≡◌, refl, sym, ap, ◌∙◌}
use mathlib.Core.List.{List}
use mathlib.Core.Logic.{inl, inr}
use Prim.Native.Nat.{ℕ, ◌+◌, ◌-◌, ◌≤◌, ◌<◌}
use native.Mathlib.Omega.{arith}
use lib.ListN.{length, get_or, set, length-set}
use lib.Seq.{get_or-set_same, get_or-set_other}
use Rattle.number.specs.Limits.{file_limit}
use Rattle.number.proofs.Choice.{is_eq, no_eq, is_le, no_le}
use Rattle.number.proofs.Scans.{below}
use Rattle.key.specs.Word.{word_at, Leads}
use Rattle.key.specs.Key.{Key}
use Rattle.key.specs.First.{first_same}
use Rattle.key.proofs.Ends.{length_word}
use Rattle.key.proofs.Firsts.{first_le}
use Rattle.meaning.specs.Normal.Size.{name_size}
use Rattle.names.specs.Uses.{word_of, spelling}
use Rattle.names.proofs.Words.{word_here, word_there, word_use}
use Rattle.places.specs.Places.{up_to, stored_use, capped}
use Rattle.places.specs.Laying.{Fresh, placed_use, Laid}
use Rattle.places.proofs.Sums.{up_more}

-- ---- sizes

-- a word that has its zero byte lies in the pool with it
module _ (s : List ℕ) (q : ℕ) (l : Leads s q) where
  pub size_small : name_size (word_at s (q - 1)) ≤ length s
  unfolding name_size
  size_small = omega (arith, l.within, length_word s (q - 1))

module _ (pool other : List ℕ) (w : ℕ) {r : ℕ} where
  pub size_here : w ≤ file_limit → r ≡ name_size (word_at pool (w - 1)) → r ≡ name_size (word_of pool other w)
  size_here l e = e ∙ ap name_size (word_here pool other w l)

  pub size_there : file_limit < w → r ≡ name_size (word_at other (w - file_limit - 1)) → r ≡ name_size (word_of pool other w)
  size_there l e = e ∙ ap name_size (word_there pool other w l)

-- ---- one use

module _ (pool other words : List ℕ) (u p : ℕ) where
  pub stored_first : (w r : ℕ) → first_same (spelling pool other words) u ≡ u → w ≡ get_or words u 0 → r ≡ name_size (word_of pool other w) → p + r ≡ p + stored_use pool other words u
  unfolding stored_use
  stored_first w r f e h = ap (λ (x : ℕ). p + x) (h ∙ is_eq _ u _ _ f (ap name_size (word_use pool other words u u w refl e)))

  pub stored_later : (first_same (spelling pool other words) u ≡ u → ⊥) → p ≡ p + stored_use pool other words u
  unfolding stored_use
  stored_later f = let e : 0 ≡ stored_use pool other words u = no_eq _ u _ _ f refl in omega arith

module _ (K : ℕ → Key) (t : List ℕ) (u p : ℕ) where
  pub placed_first : first_same K u ≡ u → capped p ≡ placed_use K t u p
  unfolding placed_use
  placed_first f = is_eq _ u _ _ f refl

  pub placed_later : (first_same K u ≡ u → ⊥) → get_or t (first_same K u) 0 ≡ placed_use K t u p
  unfolding placed_use
  placed_later f = no_eq _ u _ _ f refl

-- what was read for use u is its first use
module _ (K : ℕ → Key) (t : List ℕ) (u n x : ℕ) (f : Fresh K t u n) (l : u < n) (e : x ≡ get_or t u 0) where
  pub read_first : x ≡ first_same K u
  read_first = e ∙ f.each u (omega arith) l

  pub read_small : x ≤ u
  read_small = omega (arith, read_first, first_le K u)

  -- and what is then put for it
  pub put_first : (p y : ℕ) → x ≡ u → y ≡ capped p → set t u y ≡ set t u (placed_use K t u p)
  put_first p y z h = ap (λ (v : ℕ). set t u v) (h ∙ placed_first K t u p (sym read_first ∙ z))

  pub put_later : (p : ℕ) → (x ≡ u → ⊥) → set t u (get_or t x 0) ≡ set t u (placed_use K t u p)
  put_later p z = ap (λ (v : ℕ). set t u v) (ap (λ (k : ℕ). get_or t k 0) read_first ∙ placed_later K t u p (λ h. z (read_first ∙ h)))

pub cap_low : (p : ℕ) → p ≤ file_limit → p ≡ capped p
unfolding capped
cap_low p l = is_le p file_limit _ _ l refl

pub cap_high : (p : ℕ) → file_limit < p → file_limit + 1 ≡ capped p
unfolding capped
cap_high p l = no_le p file_limit _ _ l refl

-- ---- several

module _ (K : ℕ → Key) (stored : ℕ → ℕ) (t : List ℕ) (u p : ℕ) where
  pub Laid-none : Laid K stored t t u u p p
  Laid-none = record { end = refl; long = refl; apart = λ k h. refl; first = λ k a b. absurd (omega arith); later = λ k a b. absurd (omega arith) }

  module _ (v : List ℕ) (k q : ℕ) (l : Laid K stored t v u k p q) where
    pub laid_Fresh : (n : ℕ) → u ≤ k → Fresh K t u n → Fresh K v k n
    laid_Fresh n h f = record { each = λ j a b. l.apart j (inr a) ∙ f.each j (omega arith) b }

    pub Laid-next : (w : List ℕ) (r : ℕ) → u ≤ k → k < length v → r ≡ q + stored k → w ≡ set v k (placed_use K v k q) → Laid K stored t w u (k + 1) p r
    Laid-next w r h m e f = record {
      end = omega (arith, l.end, up_more stored k);
      long = ap length f ∙ simp length-set l.long;
      apart = λ j s. other j (elim s [ inl a ↦ (λ z. omega arith) | inr a ↦ (λ z. omega arith) ])
          ∙ l.apart j (elim s [ inl a ↦ inl a | inr a ↦ inr (omega arith) ]);
      first = λ j a b g. elim (below j k (omega arith)) [
        | inl z ↦
            let y : q ≡ p + up_to stored k - up_to stored u = omega (arith, l.end) in
            rw z (same ∙ sym (placed_first K v k q (rw z at g)) ∙ ap capped y)
        | inr z ↦ other j (λ y. omega arith) ∙ l.first j a z g
      ];
      later = λ j a b g. elim (below j k (omega arith)) [
        | inl z ↦ rw z (same ∙ sym (placed_later K v k q (λ y. omega (arith, ap (first_same K) z))) ∙ sym (other (first_same K k) (λ y. omega (arith, ap (first_same K) z))))
        | inr z ↦ other j (λ y. omega arith) ∙ l.later j a z g ∙ sym (other (first_same K j) (λ y. omega arith))
      ];
    }
      where
        other : (j : ℕ) → (j ≡ k → ⊥) → get_or w j 0 ≡ get_or v j 0
        other j z = ap (λ (x : List ℕ). get_or x j 0) f ∙ get_or-set_other v k j (placed_use K v k q) 0 z

        same : get_or w k 0 ≡ placed_use K v k q
        same = ap (λ (x : List ℕ). get_or x k 0) f ∙ get_or-set_same v k (placed_use K v k q) 0 m

pub Laid-to : (K : ℕ → Key) (stored : ℕ → ℕ) (t v : List ℕ) (u k e p r : ℕ) → k ≡ e → Laid K stored t v u k p r → Laid K stored t v u e p r
Laid-to K stored t v u k e p r z l = rw (← z) l
