-- A loop over n records: what is left to read from q on ends as the whole does.
-- Assumes nothing.
use Rattle.reading.specs.declared.Refusal.{Refusal}
use Rattle.std.specs.Prelude.{Err, Ok}
use mathlib.Core.Path.{◌≡◌, sym, ap, ◌∙◌}
use Prim.Native.Nat.{ℕ, ◌+◌, ◌-◌, ◌≤◌, ◌<◌}
use native.Mathlib.Omega.{arith}
use Rattle.reading.specs.Got.{Got, step_of, many}
use Rattle.reading.proofs.Steps.{told, many_next, many_done, many-err}

-- of n records from p on, i were read up to q
pub record Left {X : Type 0} (rd : ℕ → Got X) (n p i q : ℕ) : Type 0 where
  pub same : step_of (many rd (n - i) q) ≡ step_of (many rd n p)

module _ {X : Type 0} (rd : ℕ → Got X) (n p : ℕ) where
  pub left_start : Left rd n p 0 p
  left_start = record { same = ap (λ (m : ℕ). step_of (many rd m p)) (omega arith) }

  pub left_more : (i q e : ℕ) → Left rd n p i q → i < n → Ok e ≡ step_of (rd q) → Left rd n p (i + 1) e
  left_more i q e l h k =
      let t = told (rd q) k in
      record { same = sym (many_next rd n i q h t.1) ∙ l.same }

  pub left_err : (i q : ℕ) (r : Refusal) → Left rd n p i q → i < n → Err r ≡ step_of (rd q) → Err r ≡ step_of (many rd n p)
  left_err i q r l h k = many-err rd n i q h k ∙ l.same

  pub left_all : (i q : ℕ) → Left rd n p i q → n ≤ i → Ok q ≡ step_of (many rd n p)
  left_all i q l h = many_done rd n i q h ∙ l.same

pub ruleset records = (left_start, left_more, left_err, left_all)
