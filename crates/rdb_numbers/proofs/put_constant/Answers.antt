-- `rdb_numbers::put_constant` meets its contract.
-- Assumes nothing.
use Rattle.number.proofs.Tools.{arith, refl}
use Rattle.lookup.specs.Question.{refusal, malformed}
use Rattle.rdb_numbers.specs.Numbers.{constant_by, constant_numbers}
use Rattle.rdb_numbers.proofs.NumberLaws.{first_reading, second_reading, no_reading, then_numbers, refused_numbers}
use Rattle.rdb_numbers.proofs.put_constant.Goals as goal

pub returns-in-0 : goal.returns-in-0
unfolding constant_by malformed refusal
returns-in-0 c = then_numbers _ constant_numbers _ _ c.put_asked.ensures (first_reading _ _ _ (omega arith) refl)

pub returns-in-1 : goal.returns-in-1
unfolding constant_by malformed refusal
returns-in-1 c = then_numbers _ constant_numbers _ _ c.put_asked-in-1.ensures (second_reading _ _ _ (omega arith) refl)

pub returns-in_default : goal.returns-in_default
unfolding constant_by malformed refusal
returns-in_default c = refused_numbers _ _ _ c.put_refusal.ensures (no_reading _ _ _ (λ e. omega arith) (λ e. omega arith) (rw c.at.ensures refl))
