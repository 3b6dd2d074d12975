-- What is said of the places of one table.
-- Assumes nothing.
use Rattle.std.specs.Prelude.{◌≡◌, List, ℕ, ◌≤◌, ◌<◌, get_or}

-- what a table holds at i
unfoldable pub cell : List ℕ → ℕ → ℕ
cell t i = get_or t i 0

-- the first n places of t hold at most b
pub record AtMost (t : List ℕ) (n b : ℕ) : Type 0 where
  pub each : (i : ℕ) → i < n → get_or t i 0 ≤ b

-- the first n places of t hold 0, or a row from n on and below N, and 1
pub record Across (t : List ℕ) (n N : ℕ) : Type 0 where
  pub low : (i : ℕ) → i < n → (get_or t i 0 ≡ 0 → ⊥) → n < get_or t i 0
  pub high : (i : ℕ) → i < n → get_or t i 0 ≤ N
