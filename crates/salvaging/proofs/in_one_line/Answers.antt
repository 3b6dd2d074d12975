-- `salvaging::in_one_line` meets its contract.
-- Assumes nothing.
use Rattle.number.proofs.Tools.{arith, refl, is_eq, no_eq}
use Rattle.salvaging.specs.Text.{in_one_line}
use Rattle.salvaging.proofs.in_one_line.Goals as goal

pub returns-then-changed-eq0 : goal.returns-then-changed-eq0
unfolding in_one_line
returns-then-changed-eq0 c = is_eq _ _ _ _ (omega arith) refl

pub returns : goal.returns
unfolding in_one_line
returns c = no_eq _ _ _ _ (λ e. omega arith) refl
