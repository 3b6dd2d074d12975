-- `piling::saves_of` meets its contract.
-- Assumes nothing.
use Rattle.number.proofs.Tools.{refl}
use Rattle.piling.specs.Answers.{saves_of}
use Rattle.piling.proofs.saves_of.Goals as goal

pub returns-in-Grown : goal.returns-in-Grown
unfolding saves_of
returns-in-Grown c = rw c.in-Grown.is c.place_of.ensures

pub returns-in-Refused : goal.returns-in-Refused
unfolding saves_of
returns-in-Refused c = rw c.in-Refused.is refl

pub returns-in-Full : goal.returns-in-Full
unfolding saves_of
returns-in-Full c = rw c.in-Full.is refl
