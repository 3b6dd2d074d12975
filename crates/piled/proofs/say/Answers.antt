-- `piled::say` meets its contract.
-- Assumes nothing.
use Rattle.piled.specs.Lines.{say_piled}
use Rattle.piled.proofs.say.Goals as goal

pub returns-in-Grown : goal.returns-in-Grown
unfolding say_piled
returns-in-Grown c = rw c.in-Grown.is c.numbered.ensures

pub returns-in-Refused : goal.returns-in-Refused
unfolding say_piled
returns-in-Refused c = rw c.in-Refused.is c.refused.ensures

pub returns-in-Full : goal.returns-in-Full
unfolding say_piled
returns-in-Full c = rw c.in-Full.is c.tell.ensures
