-- `rdb_numbers::put_found` meets its contract.
-- Assumes nothing.
use Rattle.number.proofs.Tools.{arith, refl}
use Rattle.rdb.proofs.AnswerLaws.{constant_stands, constant_there, constant_absent}
use Rattle.rdb_numbers.specs.Numbers.{constant_numbers}
use Rattle.rdb_numbers.proofs.NumberLaws.{then_numbers}
use Rattle.rdb_numbers.proofs.put_found.Goals as goal

pub put_stored-requires : goal.put_stored-requires
unfolding constant_numbers
put_stored-requires c = (omega arith, constant_stands _ _ c.constant_at.ensures c.requires.1 c.in-Some.is)

pub returns-in-Some : goal.returns-in-Some
unfolding constant_numbers
returns-in-Some c = then_numbers _ constant_numbers _ _ c.put_stored.ensures (constant_there _ _ c.constant_at.ensures c.in-Some.is refl)

pub returns-in-None : goal.returns-in-None
unfolding constant_numbers
returns-in-None c = rw (← constant_absent _ _ c.constant_at.ensures c.in-None.is) refl
