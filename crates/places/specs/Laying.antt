-- A table of first uses that becomes one of places, use by use.
-- Assumes nothing.
use Rattle.std.specs.Prelude.{◌≡◌, List, ◌⊎◌, ℕ, ◌+◌, ◌-◌, ◌≤◌, ◌<◌, length, get_or}
use Rattle.number.specs.Choice.{when◌then◌else◌, ◌=?◌}
use Rattle.key.specs.Key.{Key}
use Rattle.key.specs.First.{first_same}
use Rattle.places.specs.Places.{up_to, capped}

-- from u on, up to n, the table holds first uses
pub record Fresh (K : ℕ → Key) (t : List ℕ) (u n : ℕ) : Type 0 where
  pub each : (k : ℕ) → u ≤ k → k < n → get_or t k 0 ≡ first_same K k

-- what is put for use u: p if it is the first of its word, else what that has
unfoldable pub placed_use : (ℕ → Key) → List ℕ → ℕ → ℕ → ℕ
placed_use K t u p = when first_same K u =? u then capped p else get_or t (first_same K u) 0

-- the uses from u up to e have their places: those that are stored lie one after another from p on, and end at r
pub record Laid (K : ℕ → Key) (stored : ℕ → ℕ) (t v : List ℕ) (u e p r : ℕ) : Type 0 where
  pub end : r + up_to stored u ≡ p + up_to stored e
  pub long : length v ≡ length t
  pub apart : (k : ℕ) → (k < u) ⊎ (e ≤ k) → get_or v k 0 ≡ get_or t k 0
  pub first : (k : ℕ) → u ≤ k → k < e → first_same K k ≡ k → get_or v k 0 ≡ capped (p + up_to stored k - up_to stored u)
  pub later : (k : ℕ) → u ≤ k → k < e → first_same K k < k → get_or v k 0 ≡ get_or v (first_same K k) 0
