-- `filing::space_place` meets its contract.
-- Assumes nothing.
use Rattle.number.proofs.Tools.{arith, refl, is_eq, no_eq}
use Rattle.iids.specs.Cells.{cell}
use Rattle.filing.specs.Listed.{space_of}
use Rattle.filing.proofs.space_place.Goals as goal

pub returns-then-e-u : goal.returns-then-e-u
unfolding space_of
returns-then-e-u c = is_eq _ _ _ _ (omega arith) refl

pub returns : goal.returns
unfolding space_of cell
returns c = no_eq _ _ _ _ (λ e. omega arith) refl
