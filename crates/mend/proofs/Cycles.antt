-- Entries on a cycle: the test finds them, and without their parents no chain returns.
-- Assumes nothing.
use mathlib.Core.Path.{◌≡◌, refl, sym, ap, ◌∙◌}
use mathlib.Core.Logic.{◌⊎◌, inl, inr}
use mathlib.Core.Bool.{Bool, true, false}
use Prim.Native.Nat.{ℕ, zero, suc, ◌+◌, ◌-◌, ◌≤◌, ◌<◌}
use native.Mathlib.Omega.{arith}
use native.Mathlib.Decide.{ℕ_discrete}
use Rattle.number.specs.Scan.{some}
use Rattle.number.proofs.Choice.{from_yes_eq, yes_eq}
use Rattle.number.proofs.Scans.{some_found, none_found, clash}
use Rattle.rules.specs.Rules.{climb, NoReturn}
use Rattle.rules.proofs.Chains.{pigeonhole, climb-add, climb-zero, climb_stays, climb_again, climb_below}
use Rattle.mend.specs.Cycle.{Returns, back_after, returns}

module _ (up : ℕ → ℕ) where
  -- a chain that comes back never ends
  never : (i k m : ℕ) → climb (suc k) up (i + 1) ≡ i + 1 → climb m up (i + 1) ≡ 0 → ⊥
  never i k m e z =
      let r = climb_again up (suc k) (i + 1) (omega arith) e m in
      omega (arith, climb_stays up m r.0 (i + 1) r.1 z, r.2)

  pub found_returns : (n i : ℕ) → returns up n i ≡ true → Returns up i
  unfolding returns back_after
  found_returns n i h = let r = some_found (back_after up i) n h in (r.0, from_yes_eq _ _ r.2)

  pub returns_found : (n i : ℕ) → i < n → ((j : ℕ) → j < n → up j ≤ n) → Returns up i → returns up n i ≡ true
  unfolding returns back_after
  returns_found n i l b c = go (some (back_after up i) n) refl
    where
      -- the steps come to an index twice, and the asked one lies further on
      loop : (p q : ℕ) → p < q → climb p up (i + 1) ≡ climb q up (i + 1) → climb (q - p) up (i + 1) ≡ i + 1
      loop p q h e =
          let m = climb_again up (suc c.0) (i + 1) (omega arith) c.1 p in
          let u : p + (m.0 - p) ≡ m.0 = omega (arith, m.1) in
          let v : p + (q - p) ≡ q = omega arith in
          let w : (q - p) + (m.0 - p) ≡ (m.0 - p) + (q - p) = omega arith in
          let x = climb p up (i + 1) in
          let home : climb (m.0 - p) up x ≡ i + 1 = sym (climb-add up p (m.0 - p) (i + 1)) ∙ ap (λ (k : ℕ). climb k up (i + 1)) u ∙ m.2 in
          let turn : climb (q - p) up x ≡ x = sym (climb-add up p (q - p) (i + 1)) ∙ ap (λ (k : ℕ). climb k up (i + 1)) v ∙ sym e in
          ap (climb (q - p) up) (sym home) ∙ sym (climb-add up (m.0 - p) (q - p) x) ∙ ap (λ (k : ℕ). climb k up x) (sym w) ∙ climb-add up (q - p) (m.0 - p) x ∙ ap (climb (m.0 - p) up) turn ∙ home

      go : (t : Bool) → some (back_after up i) n ≡ t → t ≡ true
      go true e = refl
      go false e =
          let r = pigeonhole n (λ k. climb k up (i + 1) - 1) (λ k m. omega (arith, climb_below up n b k (i + 1) (omega arith), never i c.0 k c.1)) in
          let h : r.first < r.second = r.apart in
          let w : r.second ≤ n = r.within in
          let same : climb r.first up (i + 1) ≡ climb r.second up (i + 1) = omega (arith, r.same, never i c.0 r.first c.1, never i c.0 r.second c.1) in
          let t : suc (r.second - r.first - 1) ≡ r.second - r.first = omega arith in
          clash (back_after up i (r.second - r.first - 1)) (yes_eq (climb (suc (r.second - r.first - 1)) up (i + 1)) (i + 1) (rw t (loop r.first r.second h same))) (none_found (back_after up i) n (r.second - r.first - 1) e (omega arith))

-- nothing stands above those that return
module _ (up low : ℕ → ℕ) (n : ℕ) (cut : (i : ℕ) → Returns up i → low i ≡ 0) (same : (i : ℕ) → (low i ≡ 0) ⊎ (low i ≡ up i)) where
  -- while it has not ended, a chain is the longer one
  along : (m x : ℕ) → (climb m low x ≡ 0 → ⊥) → climb m low x ≡ climb m up x
  along zero x h = refl
  along (suc m) zero h = absurd (h (climb-zero low m))
  along (suc m) (suc i) h = elim (same i) [
    | inl z ↦ absurd (h (ap (climb m low) z ∙ climb-zero low m))
    | inr e ↦ along m (low i) h ∙ ap (climb m up) e
  ]

  pub no_return : NoReturn low n
  no_return i a b l k e = elim (ℕ_discrete (climb a low (i + 1)) 0) [
    | yes z ↦ z
    | no f ↦
        let x = climb a low (i + 1) in
        let s : a + (b - a) ≡ b = omega arith in
        let loop : climb (b - a) low x ≡ x = sym (climb-add low a (b - a) (i + 1)) ∙ ap (λ (c : ℕ). climb c low (i + 1)) s ∙ sym e in
        absurd (back x (b - a) (omega arith) f loop)
  ]
    where
      back : (x d : ℕ) → 1 ≤ d → (x ≡ 0 → ⊥) → climb d low x ≡ x → ⊥
      back zero d l f h = f refl
      back (suc j) zero l f h = omega arith
      back (suc j) (suc d) l f h =
          let u : climb (suc d) up (suc j) ≡ suc j = sym (along (suc d) (suc j) (λ z. f (sym h ∙ z))) ∙ h in
          let t : suc j ≡ j + 1 = omega arith in
          let r : Returns up j = (d, rw (← t) u) in
          f (sym h ∙ ap (climb d low) (cut j r) ∙ climb-zero low d)
