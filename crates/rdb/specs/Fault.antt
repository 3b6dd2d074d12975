-- Request #105: "Refusals: 2 as before, then .. 31 .. 37", each with an offset.
-- Assumes nothing.
use Rattle.std.specs.Prelude.{◌≡◌, List, ◌⊎◌, ℕ, ◌≤◌, length}

-- which number and place a refusal may have
pub record Fault (s : List ℕ) (n place : ℕ) : Type 0 where
  pub number : (n ≡ 2) ⊎ ((31 ≤ n) × (n ≤ 37))
  pub within : place ≤ length s
