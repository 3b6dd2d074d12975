-- `rdb_said::found_constant` meets its contract.
-- Assumes nothing.
use Rattle.reading.specs.declared.Refusal.{Refusal}
use Rattle.rdb_value.specs.declared.Value.{Value}
use Rattle.std.specs.Prelude.{Option, Result}
use Rattle.number.proofs.Tools.{ap, refl}
use Rattle.sayings.specs.Texts.{interface_text}
use Rattle.sayings.specs.Sayings.{say_interface, interface_why}
use Rattle.said.proofs.SayingLaws.{Says-as}
use Rattle.rdb.proofs.AnswerLaws.{constant_stands, constant_there, constant_absent}
use Rattle.rdb_said.specs.Sayings.{say_constant}
use Rattle.rdb_said.proofs.found_constant.Goals as goal

pub value-requires : goal.value-requires
value-requires c = (c.requires.small, constant_stands _ _ c.constant_at.ensures c.requires c.in-Some.is)

pub returns-in-Some : goal.returns-in-Some
returns-in-Some c = Says-as (ap (λ (x : Result (Option Value) Refusal). say_constant x) (constant_there _ _ c.constant_at.ensures c.in-Some.is refl)) c.value.ensures

pub returns-in-None : goal.returns-in-None
unfolding say_constant say_interface interface_text interface_why
returns-in-None c = Says-as (ap (λ (x : Result (Option Value) Refusal). say_constant x) (constant_absent _ _ c.constant_at.ensures c.in-None.is)) c.interface.ensures
