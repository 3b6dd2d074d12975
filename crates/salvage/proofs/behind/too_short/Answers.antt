-- `salvage::behind::too_short` meets its contract.
-- Assumes nothing.
use Rattle.salvage.specs.Salvage.{too_short}
use Rattle.number.proofs.Tools.{arith, refl, is_lt, no_lt, ◌<?◌}
use Rattle.salvage.proofs.behind.too_short.Goals as goal

pub returns-then-indexes-lt-ENTRY_LIMIT : goal.returns-then-indexes-lt-ENTRY_LIMIT
unfolding too_short
returns-then-indexes-lt-ENTRY_LIMIT c = is_lt _ _ _ _ (omega arith) refl

pub returns-then-numbers-lt-ENTRY_LIMIT : goal.returns-then-numbers-lt-ENTRY_LIMIT
unfolding too_short
returns-then-numbers-lt-ENTRY_LIMIT c = no_lt _ _ _ _ (omega arith) (is_lt _ _ _ _ (omega arith) refl)

pub returns : goal.returns
unfolding too_short
returns c = no_lt _ _ _ _ (omega arith) (no_lt _ _ _ _ (omega arith) (unfold ◌<?◌ in refl))
