-- `rdb_numbers::put_told` meets its contract.
-- Assumes nothing.
use Rattle.std.specs.Prelude.{◌≡◌, Some, None}
use lib.ListN.{length-set}
use Rattle.number.proofs.Tools.{arith, refl}
use Rattle.rdb_numbers.specs.Numbers.{entity_numbers}
use Rattle.rdb_numbers.proofs.put_told.Goals as goal

pub bounds-answer-1 : goal.bounds-answer-1
unfolding entity_numbers
bounds-answer-1 c = simp length-set (omega arith)

pub bounds-answer-2 : goal.bounds-answer-2
unfolding entity_numbers
bounds-answer-2 c = simp length-set (omega arith)

pub returns-in-Ok-Some : goal.returns-in-Ok-Some
unfolding entity_numbers
returns-in-Ok-Some c =
    let e : c.in-Ok-Some.field-0 ≡ Some c.in-Ok-Some.x = rw c.in-Ok-Some.is at c.in-Ok-Some.field-0-is in
    rw (c.in-Ok-Some.is, e) refl

pub returns-in-Ok-None : goal.returns-in-Ok-None
unfolding entity_numbers
returns-in-Ok-None c =
    let e : c.in-Ok-None.field-0 ≡ None = rw c.in-Ok-None.is at c.in-Ok-None.field-0-is in
    rw (c.in-Ok-None.is, e) refl

pub returns-in-Err : goal.returns-in-Err
unfolding entity_numbers
returns-in-Err c = rw c.in-Err.is c.put_refusal.ensures
