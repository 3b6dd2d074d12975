-- `rdb_told::least` meets its contract.
-- Assumes nothing.
use Rattle.number.proofs.Tools.{refl, arith, is_lt, no_lt}
use Rattle.rdb_told.specs.Fills.{least}
use Rattle.rdb_told.proofs.least.Goals as goal

pub returns-then-a-b : goal.returns-then-a-b
unfolding least
returns-then-a-b c = is_lt _ _ _ _ (omega arith) refl

pub returns : goal.returns
unfolding least
returns c = no_lt _ _ _ _ (omega arith) refl
