-- `mend::reports::place_at` meets its contract.
-- Assumes nothing.
use Rattle.mend.specs.Tables.{place_in}
use Rattle.number.proofs.Tools.{arith, refl, is_eq, no_eq}
use Rattle.mend.proofs.reports.place_at.Goals as goal

pub returns-then-numbers-k-ne0 : goal.returns-then-numbers-k-ne0
unfolding place_in
returns-then-numbers-k-ne0 c = no_eq _ _ _ _ (λ e. omega arith) refl

pub returns : goal.returns
unfolding place_in
returns c = is_eq _ _ _ _ (omega arith) refl
