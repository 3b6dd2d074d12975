-- `salvage::work::clear_at` meets its contract.
-- Assumes nothing.
use Rattle.salvage.specs.Tables.{clear_at}
use Rattle.number.proofs.Tools.{arith, refl, is_eq, no_eq}
use Rattle.salvage.proofs.work.clear_at.Goals as goal

pub returns-then-number_at-eq0 : goal.returns-then-number_at-eq0
unfolding clear_at
returns-then-number_at-eq0 c = is_eq _ _ _ _ (omega arith) refl

pub returns : goal.returns
unfolding clear_at
returns c = no_eq _ _ _ _ (λ e. omega arith) c.clear_one.ensures
