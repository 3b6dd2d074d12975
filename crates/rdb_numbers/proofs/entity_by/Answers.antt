-- `rdb_numbers::entity_by` meets its contract.
-- Assumes nothing.
use Rattle.number.proofs.Tools.{arith, refl}
use Rattle.lookup.specs.Question.{refusal, malformed}
use Rattle.rdb_numbers.specs.Numbers.{entity_by}
use Rattle.rdb_numbers.proofs.NumberLaws.{first_reading, second_reading, no_reading}
use Rattle.rdb_numbers.proofs.entity_by.Goals as goal

pub returns-in-0 : goal.returns-in-0
unfolding entity_by malformed refusal
returns-in-0 c = first_reading _ _ _ (omega arith) c.entity_by_path.ensures

pub returns-in-1 : goal.returns-in-1
unfolding entity_by malformed refusal
returns-in-1 c = second_reading _ _ _ (omega arith) c.entity_by_path-in-1.ensures

pub returns-in_default : goal.returns-in_default
unfolding entity_by malformed refusal
returns-in_default c = no_reading _ _ _ (λ e. omega arith) (λ e. omega arith) (rw c.at.ensures refl)
