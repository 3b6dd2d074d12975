-- `outcomes::linked` meets its contract.
-- Assumes nothing.
use Rattle.outcomes.specs.Lines.{linked_text, say_linked, linked_why}
use Rattle.outcomes.proofs.linked.Goals as goal

pub returns-in-Ok : goal.returns-in-Ok
unfolding say_linked linked_text linked_why
returns-in-Ok c = rw c.in-Ok.is c.numbered.ensures

pub returns-in-Err : goal.returns-in-Err
unfolding say_linked linked_text linked_why
returns-in-Err c = rw c.in-Err.is c.link_refused.ensures
