-- `pooling::pointed` meets its contract.
-- Assumes nothing.
use Rattle.number.proofs.Tools.{arith, refl, is_eq, no_eq}
use Rattle.pooling.specs.Tabled.{pointed_at}
use Rattle.pooling.proofs.pointed.Goals as goal

pub returns-then-b-eq0 : goal.returns-then-b-eq0
unfolding pointed_at
returns-then-b-eq0 c = is_eq _ _ _ _ (omega arith) refl

pub returns : goal.returns
unfolding pointed_at
returns c = no_eq _ _ _ _ (λ e. omega arith) refl
