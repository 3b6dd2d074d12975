-- Each word is stored once: what that takes grows with the words, and is never more than every use by itself.
-- Assumes nothing.
use mathlib.Core.Path.{◌≡◌, refl, sym, ap, ◌∙◌}
use mathlib.Core.Bool.{Bool}
use mathlib.Core.Logic.{inl, inr}
use mathlib.Core.List.{List, [], ◌∷◌}
use Prim.Native.Nat.{ℕ, zero, suc, ◌+◌, ◌≤◌, ◌<◌}
use native.Mathlib.Omega.{arith}
use native.Mathlib.Decide.{ℕ_discrete}
use lib.ListN.{length, get_or}
use Rattle.number.specs.Choice.{when◌then◌else◌, ◌=?◌}
use Rattle.number.proofs.Choice.{is_eq, no_eq, both}
use Rattle.key.specs.Key.{key, key_name}
use Rattle.key.proofs.Firsts.{first_le, first_key, first_least, first_equal, first_first}
use Rattle.meaning.specs.Facts.Facts.{In, Sub}
use Rattle.meaning.proofs.Facts.Sets.{at_In, In-at, Distinct, weigh, weigh-Sub}
use Rattle.meaning.specs.Normal.Size.{name_size}
use Rattle.meaning.specs.Stock.Uses.{use_key, first_use, at_first, kept_size, stored_size, stock_size}

-- ---- sums

-- the sum of f below n
up_to : (ℕ → ℕ) → ℕ → ℕ
up_to f zero = 0
up_to f (suc n) = up_to f n + f n

up_shift : (f : ℕ → ℕ) (n : ℕ) → up_to f (suc n) ≡ f 0 + up_to (λ u. f (suc u)) n
unfolding up_to
up_shift f zero = omega arith
up_shift f (suc n) = omega (arith, up_shift f n)

stored_up : (kept : ℕ → Bool) (f : ℕ → ℕ) (u : ℕ) (ws : List (List ℕ)) → ((i : ℕ) → kept_size kept (u + i) (get_or ws i []) ≡ f i) → stored_size kept u ws ≡ up_to f (length ws)
unfolding stored_size up_to
stored_up kept f u [] h = refl
stored_up kept f u (w ∷ ws) h =
    let z : u ≡ u + 0 = omega arith in
    let a : kept_size kept u w ≡ f 0 = ap (λ (k : ℕ). kept_size kept k w) z ∙ h 0 in
    let b = stored_up kept (λ i. f (suc i)) (u + 1) ws (λ i. let e : u + 1 + i ≡ u + suc i = omega arith in ap (λ (k : ℕ). kept_size kept k (get_or ws i [])) e ∙ h (suc i)) in
    omega (arith, a, b, up_shift f (length ws))

-- ---- the words stored

module _ (ws : List (List ℕ)) where
  abbrev W : ℕ → List ℕ
  W u = get_or ws u []

  pub word_first : (u : ℕ) → W (first_use ws u) ≡ W u
  unfolding first_use key_name
  word_first u = ap key_name (first_key (use_key ws) u)

  -- the words stored among the uses below n, the last first
  stored : ℕ → List (List ℕ)
  stored zero = []
  stored (suc n) = when first_use ws n =? n then W n ∷ stored n else stored n

  stored_kept : (n : ℕ) → first_use ws n ≡ n → W n ∷ stored n ≡ stored (suc n)
  unfolding stored
  stored_kept n e = is_eq (first_use ws n) n _ _ e refl

  stored_left : (n : ℕ) → (first_use ws n ≡ n → ⊥) → stored n ≡ stored (suc n)
  unfolding stored
  stored_left n e = no_eq (first_use ws n) n _ _ e refl

  below_weighs : (n : ℕ) → up_to (λ u. kept_size (at_first ws) u (W u)) n ≡ weigh name_size (stored n)
  unfolding up_to stored kept_size at_first
  below_weighs zero = refl
  below_weighs (suc n) = elim (ℕ_discrete (first_use ws n) n) [
    | yes e ↦ omega (arith, below_weighs n, is_eq (first_use ws n) n (name_size (W n)) 0 e refl, ap (weigh name_size) (stored_kept n e))
    | no f ↦ omega (arith, below_weighs n, no_eq (first_use ws n) n (name_size (W n)) 0 f refl, ap (weigh name_size) (stored_left n f))
  ]

  stored_weighs : stock_size ws ≡ weigh name_size (stored (length ws))
  unfolding stock_size
  stored_weighs =
      stored_up (at_first ws) (λ u. kept_size (at_first ws) u (W u)) 0 ws (λ i. let e : 0 + i ≡ i = omega arith in ap (λ (k : ℕ). kept_size (at_first ws) k (W i)) e)
      ∙ below_weighs (length ws)

  -- each is the word of a first use
  stored_from : (n : ℕ) (x : List ℕ) → In x (stored n) → (u : ℕ) × (u < n) × (first_use ws u ≡ u) × (x ≡ W u)
  unfolding stored
  stored_from zero x i = absurd i
  stored_from (suc n) x i = elim (ℕ_discrete (first_use ws n) n) [
    | yes e ↦ elim (rw (← stored_kept n e) at i) [
      | inl q ↦ (n, omega arith, e, q)
      | inr j ↦ let r = stored_from n x j in (r.0, omega (arith, r.1), r.2, r.3)
    ]
    | no f ↦ let r = stored_from n x (rw (← stored_left n f) at i) in (r.0, omega (arith, r.1), r.2, r.3)
  ]

  first_not : (n u : ℕ) → u < first_use ws n → W u ≡ W n → ⊥
  unfolding first_use
  first_not n u l q = first_least (use_key ws) n u l (ap (key []) q)

  stored-Distinct : (n : ℕ) → Distinct (stored n)
  unfolding stored
  stored-Distinct zero = tt
  stored-Distinct (suc n) = elim (ℕ_discrete (first_use ws n) n) [
    | yes e ↦ rw (← stored_kept n e) (absent e, stored-Distinct n)
    | no f ↦ rw (← stored_left n f) (stored-Distinct n)
  ]
    where
      absent : first_use ws n ≡ n → In (W n) (stored n) → ⊥
      absent e i =
          let r = stored_from n (W n) i in
          first_not n r.0 (omega (arith, r.1, e)) (sym r.3)

  stored_has : (n u : ℕ) → u < n → first_use ws u ≡ u → In (W u) (stored n)
  stored_has zero u l e = absurd (omega arith)
  stored_has (suc n) u l e = elim (ℕ_discrete u n) [
    | yes q ↦ rw (← stored_kept n (rw q at e)) (inl (ap W q))
    | no f ↦ let i = stored_has n u (omega arith) e in elim (ℕ_discrete (first_use ws n) n) [
      | yes g ↦ rw (← stored_kept n g) (inr i)
      | no g ↦ rw (← stored_left n g) i
    ]
  ]

  pub first_first_use : (u : ℕ) → first_use ws (first_use ws u) ≡ first_use ws u
  unfolding first_use
  first_first_use u = first_first (use_key ws) u

  pub first_use-le : (u : ℕ) → first_use ws u ≤ u
  unfolding first_use
  first_use-le u = first_le (use_key ws) u

  pub same_first : (u v : ℕ) → W u ≡ W v → first_use ws u ≡ first_use ws v
  unfolding first_use
  same_first u v e = first_equal (use_key ws) u v (ap (key []) e)

  -- every word is stored
  stored_all : Sub ws (stored (length ws))
  stored_all x i =
      let r = In-at [] x ws i in
      let u : ℕ = r.0 in
      let h = stored_has (length ws) (first_use ws u) (omega (arith, r.1, first_use-le u)) (first_first_use u) in
      rw (word_first u ∙ r.2) at h

  all_stored : Sub (stored (length ws)) ws
  all_stored x i = let r = stored_from (length ws) x i in rw r.3 (at_In [] ws r.0 r.1)

-- ---- sizes

-- more words never take less
pub stock_grows : (vs ws : List (List ℕ)) → Sub vs ws → stock_size vs ≤ stock_size ws
stock_grows vs ws f =
    let c = weigh-Sub name_size name_size (λ x. omega arith) (stored vs (length vs)) (stored ws (length ws)) (stored-Distinct vs (length vs))
    (λ x i. stored_all ws x (f x (all_stored vs x i))) in
    omega (arith, stored_weighs vs, stored_weighs ws, c)

-- what is stored takes no more than each use by itself
kept_less : (kept : ℕ → Bool) (u : ℕ) (w : List ℕ) → kept_size kept u w ≤ name_size w
unfolding kept_size
kept_less kept u w = both (λ (n : ℕ). n ≤ name_size w) (kept u) (name_size w) 0 (λ _. omega arith) (λ _. omega arith)

stored_less : (kept : ℕ → Bool) (u : ℕ) (ws : List (List ℕ)) → stored_size kept u ws ≤ weigh name_size ws
unfolding stored_size
stored_less kept u [] = omega arith
stored_less kept u (w ∷ ws) = omega (arith, kept_less kept u w, stored_less kept (u + 1) ws)

pub stock_shorter : (ws : List (List ℕ)) → stock_size ws ≤ weigh name_size ws
unfolding stock_size
stock_shorter ws = stored_less (at_first ws) 0 ws
