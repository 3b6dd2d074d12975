-- What is done for each entry of which a table tells that something is reported: where it tells not 0.
-- Assumes nothing.
use Rattle.std.specs.Prelude.{List, [], ◌∷◌, ◌++◌, ℕ, zero, suc, ◌+◌, ◌-◌}
use Rattle.number.specs.Choice.{when◌then◌else◌, ◌=?◌}
use Rattle.mend.specs.Cleared.{clear}

-- the descriptor pointer of entry k of a directory at d cleared
unfoldable pub clear_at : (ℕ → ℕ) → ℕ → ℕ → List ℕ → List ℕ
clear_at f d k s = when f k =? 0 then s else clear d (k + 1) s

-- those of the first n
unfoldable pub clear_by : (ℕ → ℕ) → ℕ → ℕ → List ℕ → List ℕ
clear_by f d zero s = s
clear_by f d (suc k) s = clear_at f d k (clear_by f d k s)

unfoldable pub one_by : ℕ → ℕ → List ℕ
one_by number v = when number =? 0 then [] else v ∷ []

-- what g gives of each of the first n of which f tells something
unfoldable pub list_by : (ℕ → ℕ) → (ℕ → ℕ) → ℕ → List ℕ
list_by f g zero = []
list_by f g (suc k) = list_by f g k ++ one_by (f k) (g k)

-- the index of entry k, counted from 1
unfoldable pub index_at : ℕ → ℕ
index_at k = k + 1

-- the number that is reported: f tells 1 more
unfoldable pub reported_at : (ℕ → ℕ) → ℕ → ℕ
reported_at f k = f k - 1
