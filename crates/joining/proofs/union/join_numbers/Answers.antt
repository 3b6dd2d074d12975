-- `joining::union::join_numbers` meets its contract.
-- Assumes nothing.
use Rattle.stages.proofs.Knows as knows
use Rattle.joining.proofs.Stops.{stops}
use Rattle.stages.proofs.Held.{given_few}
use Rattle.number.proofs.Tools.{arith}
use Rattle.joining.proofs.union.join_numbers.Goals as goal

pub first_two_numbers-i-requires : goal.first_two_numbers-i-requires
first_two_numbers-i-requires c = let p = c.requires in (omega (arith, given_few p.0), omega arith, omega (arith, given_few p.0), omega arith, omega arith, omega arith, knows.mates_most _ _ _ _ _ _ p.1 p.0 _ (omega arith))

pub returns-then-i-n : goal.returns-then-i-n
returns-then-i-n c = let p = c.requires in stops 21 _ _ (cc) (knows.stop_21 _ _ _ _ _ _ p.1 p.2 c.first_two_numbers-i.ensures (omega arith))

pub join_numbers-requires : goal.join_numbers-requires
join_numbers-requires c = let p = c.requires in (omega (arith, given_few p.0), omega arith, omega (arith, given_few p.0), omega arith, omega arith, omega arith, knows.mates_far _ _ _ _ _ _ p.1 p.0)

pub returns-then-j-n : goal.returns-then-j-n
returns-then-j-n c = let p = c.requires in stops 22 _ _ (cc) (knows.stop_22 _ _ _ _ _ _ p.1 p.2 c.first_two_numbers-i.ensures (omega arith) c.join_numbers.ensures.0 c.first_shared-j.ensures (omega arith))

pub join_descriptors-requires : goal.join_descriptors-requires
join_descriptors-requires c = let p = c.requires in (p.0, knows.numbered _ _ _ _ _ _ p.1 p.2 c.first_two_numbers-i.ensures (omega arith) c.join_numbers.ensures.0 c.first_shared-j.ensures (omega arith), omega arith, omega arith, omega arith, c.join_numbers.ensures.1, c.join_numbers.ensures.2)
