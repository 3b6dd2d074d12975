-- Where the reading of records in turn stops.
-- Assumes nothing.
use Rattle.std.specs.Prelude.{Bool, true, false, ℕ, zero, suc, ◌+◌}
use Rattle.reading.specs.Got.{Got, got, bad}
use Rattle.broken.specs.declared.Stop.{Stop}

unfoldable pub is_bad : {X : Type 0} → Got X → Bool
is_bad (got x e) = false
is_bad (bad n q) = true

-- behind the record at p, which is the k-th, or at it where it is refused
unfoldable pub stop_here : {X : Type 0} → Got X → ℕ → ℕ → (ℕ → ℕ → Stop) → Stop
stop_here (got x e) k p more = more (k + 1) e
stop_here (bad n q) k p more = record { read = k; at = p }

-- k records were read before p, and n are left: how many are read, and the position of the first that is refused, or behind the last
unfoldable pub stop_from : {X : Type 0} → (ℕ → Got X) → ℕ → ℕ → ℕ → Stop
stop_from rd zero k p = record { read = k; at = p }
stop_from rd (suc n) k p = stop_here (rd p) k p (stop_from rd n)

-- of n records from p on
unfoldable pub stop_of : {X : Type 0} → (ℕ → Got X) → ℕ → ℕ → Stop
stop_of rd n p = stop_from rd n 0 p
