-- `rdb_said::constant` meets its contract.
-- Assumes nothing.
use Rattle.reading.specs.declared.Refusal.{Refusal}
use Rattle.rdb_value.specs.declared.Value.{Value}
use Rattle.std.specs.Prelude.{Option, Result}
use Rattle.number.proofs.Tools.{ap, refl}
use Rattle.said.proofs.SayingLaws.{Says-as}
use Rattle.rdb.proofs.AnswerLaws.{Checked-file, constant_Accepted, constant_refused}
use Rattle.rdb_said.specs.Sayings.{say_constant, constant_saying}
use Rattle.rdb_said.proofs.constant.Goals as goal

pub found_constant-requires : goal.found_constant-requires
found_constant-requires c = Checked-file _ _ c.check.ensures c.in-Ok.is

pub returns-in-Ok : goal.returns-in-Ok
unfolding constant_saying
returns-in-Ok c = Says-as (ap (λ (x : Result (Option Value) Refusal). say_constant x) (constant_Accepted _ _ c.check.ensures _ c.in-Ok.is refl)) c.found_constant.ensures

pub returns-in-Err : goal.returns-in-Err
unfolding constant_saying say_constant
returns-in-Err c = Says-as (ap (λ (x : Result (Option Value) Refusal). say_constant x) (constant_refused _ _ c.check.ensures _ c.in-Err.is)) c.refused.ensures
