-- `joining::union::join_descriptors` meets its contract.
-- Assumes nothing.
use Rattle.stages.proofs.Knows as knows
use Rattle.joining.proofs.Stops.{stops}
use Rattle.stages.proofs.Held.{given_few}
use Rattle.number.proofs.Tools.{arith}
use Rattle.joining.proofs.union.join_descriptors.Goals as goal

pub first_two_descriptors-i-requires : goal.first_two_descriptors-i-requires
first_two_descriptors-i-requires c = let p = c.requires in (p.0, knows.meets _ _ _ _ _ _ p.1 c.note_descriptors.ensures.0, omega arith, omega arith, c.note_descriptors.ensures.1)

pub returns-then-i-n : goal.returns-then-i-n
returns-then-i-n c = stops 23 _ _ (cc) (knows.stop_23 _ _ _ _ _ _ c.requires.1 c.note_descriptors.ensures.0 c.first_two_descriptors-i.ensures (omega arith))

pub note_holders-requires : goal.note_holders-requires
note_holders-requires c = let p = c.requires in (omega (arith, given_few p.0), omega (arith, given_few p.0), c.note_descriptors.ensures.1, omega arith, knows.mates_most _ _ _ _ _ _ (knows.numbered_Mated _ _ _ _ _ _ p.1) p.0 2048 (omega (arith, given_few p.0)), omega arith)

pub join_chains-requires : goal.join_chains-requires
join_chains-requires c = let p = c.requires in (p.0, knows.resolved _ _ _ _ _ _ p.1 c.note_descriptors.ensures.0 c.first_two_descriptors-i.ensures (omega arith) c.note_holders.ensures.0, omega arith, omega arith, omega arith, omega arith, c.note_holders.ensures.1)
