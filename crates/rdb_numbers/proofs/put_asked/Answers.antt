-- `rdb_numbers::put_asked` meets its contract.
-- Assumes nothing.
use Rattle.number.proofs.Tools.{arith, refl}
use Rattle.rdb.proofs.AnswerLaws.{Checked-file, constant_Accepted, constant_refused}
use Rattle.rdb_numbers.specs.Numbers.{constant_numbers}
use Rattle.rdb_numbers.proofs.NumberLaws.{then_numbers, refused_numbers}
use Rattle.rdb_numbers.proofs.put_asked.Goals as goal

pub put_found-requires : goal.put_found-requires
put_found-requires c = (omega arith, Checked-file _ _ c.check.ensures c.in-Ok.is)

pub returns-in-Ok : goal.returns-in-Ok
returns-in-Ok c = then_numbers _ constant_numbers _ _ c.put_found.ensures (constant_Accepted _ _ c.check.ensures _ c.in-Ok.is refl)

pub returns-in-Err : goal.returns-in-Err
returns-in-Err c = refused_numbers _ _ _ c.put_refusal.ensures (constant_refused _ _ c.check.ensures _ c.in-Err.is)
