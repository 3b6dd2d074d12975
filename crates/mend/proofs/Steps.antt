-- Steps up in a table, against the steps of the definition.
-- Assumes nothing.
use mathlib.Core.Path.{◌≡◌, refl, sym, ap, ◌∙◌}
use mathlib.Core.Bool.{true, false}
use mathlib.Core.List.{List}
use Prim.Native.Nat.{ℕ, zero, suc, ◌+◌, ◌-◌, ◌≤◌, ◌<◌}
use native.Mathlib.Omega.{arith}
use lib.ListN.{get_or}
use Rattle.number.proofs.Choice.{yes_eq, not_eq}
use Rattle.number.proofs.Scans.{Misses, Misses-more, Misses-some, hits_some}
use Rattle.rules.specs.Rules.{rise, climb}
use Rattle.rules.proofs.Chains.{climb-add}
use Rattle.mend.specs.Cycle.{back_after, returns}
use Rattle.mend.specs.Tables.{Parents, up_in}

module _ (ups : List ℕ) where
  pub step_is : (i : ℕ) → (i ≡ 0 → ⊥) → get_or ups (i - 1) 0 ≡ rise (up_in ups) i
  unfolding up_in
  step_is zero z = absurd (z refl)
  step_is (suc i) z = let e : suc i - 1 ≡ i = omega arith in rw e refl

  pub step_none : (i : ℕ) → i ≡ 0 → 0 ≡ rise (up_in ups) i
  step_none i z = rw z refl

  pub step_below : (n i : ℕ) → Parents ups n → i ≤ n → rise (up_in ups) i ≤ n
  unfolding up_in
  step_below n zero p l = l
  step_below n (suc i) p l = p.each i l

  climb_more : (t x : ℕ) → rise (up_in ups) (climb t (up_in ups) x) ≡ climb (suc t) (up_in ups) x
  climb_more t x = sym (climb-add (up_in ups) t 1 x) ∙ ap (λ (k : ℕ). climb k (up_in ups) x) (let e : t + 1 ≡ suc t = omega arith in e)

  module _ (n k t i j : ℕ) (at : i ≡ climb t (up_in ups) (k + 1)) (up : j ≡ rise (up_in ups) i) where
    pub step_climbs : j ≡ climb (t + 1) (up_in ups) (k + 1)
    step_climbs = up ∙ ap (rise (up_in ups)) at ∙ climb_more t (k + 1) ∙ ap (λ (x : ℕ). climb x (up_in ups) (k + 1)) (let e : suc t ≡ t + 1 = omega arith in e)

    here : j ≡ climb (suc t) (up_in ups) (k + 1)
    here = up ∙ ap (rise (up_in ups)) at ∙ climb_more t (k + 1)

    pub step_home : t < n → j ≡ k + 1 → true ≡ returns (up_in ups) n k
    unfolding returns back_after
    step_home l e = hits_some (back_after (up_in ups) k) n t l (yes_eq _ _ (sym here ∙ e))

    pub step_on : (j ≡ k + 1 → ⊥) → Misses (back_after (up_in ups) k) t → Misses (back_after (up_in ups) k) (t + 1)
    unfolding back_after
    step_on f m = Misses-more _ t m (not_eq _ _ (λ e. f (here ∙ e)))

  pub steps_out : (n k t : ℕ) → t ≡ n → Misses (back_after (up_in ups) k) t → false ≡ returns (up_in ups) n k
  unfolding returns
  steps_out n k t e m = rw (← e) (Misses-some _ t m)
