-- `rdb_said::entity` meets its contract.
-- Assumes nothing.
use Rattle.reading.specs.declared.Refusal.{Refusal}
use Rattle.rdb.specs.declared.Entity.{Entity}
use Rattle.std.specs.Prelude.{Option, Result}
use Rattle.number.proofs.Tools.{sym, ap, ◌∙◌}
use Rattle.sayings.specs.Texts.{interface_text}
use Rattle.sayings.specs.Sayings.{say_interface, interface_why}
use Rattle.said.proofs.SayingLaws.{Says-as}
use Rattle.rdb_said.specs.Sayings.{say_entity, entity_saying}
use Rattle.rdb_said.proofs.entity.Goals as goal

pub returns-in-Ok-Some : goal.returns-in-Ok-Some
unfolding entity_saying
returns-in-Ok-Some c = Says-as (ap (λ (x : Result (Option Entity) Refusal). say_entity x) (sym (rw c.in-Ok-Some.field-0-is at c.in-Ok-Some.is) ∙ c.entity_by_path.ensures)) c.found_entity.ensures

pub returns-in-Ok-None : goal.returns-in-Ok-None
unfolding entity_saying say_entity say_interface interface_text interface_why
returns-in-Ok-None c = Says-as (ap (λ (x : Result (Option Entity) Refusal). say_entity x) (sym (rw c.in-Ok-None.field-0-is at c.in-Ok-None.is) ∙ c.entity_by_path.ensures)) c.interface.ensures

pub returns-in-Err : goal.returns-in-Err
unfolding entity_saying say_entity
returns-in-Err c = Says-as (ap (λ (x : Result (Option Entity) Refusal). say_entity x) (sym c.in-Err.is ∙ c.entity_by_path.ensures)) c.refused.ensures
