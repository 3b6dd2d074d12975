-- `pile::next_step` meets its contract.
-- Assumes nothing.
use Rattle.number.proofs.Tools.{refl, arith, is_eq, no_eq}
use Rattle.pile.specs.Pile.{link_count}
use Rattle.pile.proofs.next_step.Goals as goal

pub returns-then-k-eq0 : goal.returns-then-k-eq0
unfolding link_count
returns-then-k-eq0 c = is_eq _ _ _ _ (omega arith) refl

pub returns : goal.returns
unfolding link_count
returns c = no_eq _ _ _ _ (λ e. omega arith) refl
