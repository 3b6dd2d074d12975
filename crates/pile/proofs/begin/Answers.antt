-- `pile::begin` meets its contract.
-- Assumes nothing.
use mathlib.Core.Path.{refl}
use Rattle.pile.specs.Pile.{no_files}
use Rattle.pile.proofs.begin.Goals as goal

pub returns : goal.returns
unfolding no_files
returns c = refl
