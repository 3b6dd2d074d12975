-- `outcomes::normalised` meets its contract.
-- Assumes nothing.
use Rattle.outcomes.specs.Lines.{normalised_text, say_normalised, normalised_why}
use Rattle.outcomes.proofs.normalised.Goals as goal

pub returns-in-Ok : goal.returns-in-Ok
unfolding say_normalised normalised_text normalised_why
returns-in-Ok c = rw c.in-Ok.is c.numbered.ensures

pub returns-in-Err : goal.returns-in-Err
unfolding say_normalised normalised_text normalised_why
returns-in-Err c = rw c.in-Err.is c.refused.ensures
