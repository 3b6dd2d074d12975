-- `joining::union::join_chains` meets its contract.
-- Assumes nothing.
use Rattle.stages.proofs.Knows as knows
use Rattle.joining.proofs.Stops.{stops}
use Rattle.stages.proofs.Held.{given_few, Lies-first, Lies-second}
use Rattle.number.proofs.Tools.{arith}
use Rattle.joining.proofs.union.join_chains.Goals as goal

pub note_up-requires : goal.note_up-requires
note_up-requires c = let p = c.requires in (Lies-first p.0, Lies-second p.0, omega arith, omega arith, omega arith, knows.first_most _ _ _ _ _ _ (knows.resolved_Keyed _ _ _ _ _ _ p.1) p.0, knows.held_most _ _ _ _ _ _ p.1 p.0)

pub first_endless-i-requires : goal.first_endless-i-requires
first_endless-i-requires c = let p = c.requires in (omega arith, omega (arith, given_few p.0), c.note_up.ensures.1, knows.ups_most _ _ _ _ _ _ p.1 c.note_up.ensures.0 p.0)

pub returns-then-i-n : goal.returns-then-i-n
returns-then-i-n c = stops 24 _ _ (cc) (knows.stop_24 _ _ _ _ _ _ c.requires.1 c.note_up.ensures.0 c.first_endless-i.ensures (omega arith))

pub join_order-requires : goal.join_order-requires
join_order-requires c = let p = c.requires in (p.0, knows.ended _ _ _ _ _ _ p.1 c.note_up.ensures.0 c.first_endless-i.ensures (omega arith), omega arith, omega arith, omega arith, omega arith, omega arith)
