-- What is said of the places of one table, and how the table of mates grows.
-- Assumes nothing.
use Rattle.std.specs.Prelude.{◌≡◌, List, ℕ, ◌+◌, ◌<◌, get_or, set}
use Rattle.number.specs.Choice.{when◌then◌else◌, ◌<?◌}

unfoldable pub nothing : ℕ → ℕ
nothing i = 0

-- no row stands twice among the first c of t
pub record Apart (t : List ℕ) (c : ℕ) : Type 0 where
  pub each : (a b : ℕ) → a < b → b < c → get_or t a 0 ≡ get_or t b 0 → ⊥

-- the first c places of t hold rows below n
pub record Below (t : List ℕ) (c n : ℕ) : Type 0 where
  pub each : (q : ℕ) → q < c → get_or t q 0 < n

-- place holds for the first c rows of t their indices there, counted from 1
pub record Spots (t : List ℕ) (c : ℕ) (place : List ℕ) : Type 0 where
  pub each : (q : ℕ) → q < c → get_or place (get_or t q 0) 0 ≡ q + 1

-- the table of mates after row j, where k is the first row of its key
unfoldable pub mate_noted : ℕ → ℕ → ℕ → List ℕ → List ℕ
mate_noted n k j m = when k <? n then set m k (j + 1) else m
