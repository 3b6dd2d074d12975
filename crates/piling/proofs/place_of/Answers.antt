-- `piling::place_of` meets its contract.
-- Assumes nothing.
use Rattle.number.proofs.Tools.{refl, arith, is_eq, no_eq}
use Rattle.piling.specs.Answers.{place_of}
use Rattle.piling.proofs.place_of.Goals as goal

pub returns-then-k-eq0 : goal.returns-then-k-eq0
unfolding place_of
returns-then-k-eq0 c = is_eq _ _ _ _ (omega arith) refl

pub returns : goal.returns
unfolding place_of
returns c = no_eq _ _ _ _ (λ e. omega arith) refl
