-- `joining::union::join_order` meets its contract.
-- Assumes nothing.
use Rattle.stages.proofs.Knows as knows
use Rattle.stages.proofs.Held.{given_few}
use Rattle.number.proofs.Tools.{arith}
use Rattle.joining.proofs.union.join_order.Goals as goal

pub order_rows-requires : goal.order_rows-requires
order_rows-requires c = let p = c.requires in (knows.keys_few _ _ _ _ _ _ (knows.ended_Keyed _ _ _ _ _ _ p.1) p.0, omega arith, omega arith, omega arith, omega arith, knows.keys_most _ _ _ _ _ _ (knows.ended_Keyed _ _ _ _ _ _ p.1) p.0)

pub place_rows-requires : goal.place_rows-requires
place_rows-requires c = let p = c.requires in (knows.keys_few _ _ _ _ _ _ (knows.ended_Keyed _ _ _ _ _ _ p.1) p.0, omega (arith, given_few p.0), c.order_rows.ensures.1, omega arith, omega arith, knows.order_most _ _ _ _ _ _ p.1 c.order_rows.ensures.0 p.0, knows.first_most _ _ _ _ _ _ (knows.ended_Keyed _ _ _ _ _ _ p.1) p.0)

pub write_union-requires : goal.write_union-requires
write_union-requires c = let p = c.requires in (p.0, knows.arranged _ _ _ _ _ _ p.1 c.order_rows.ensures.0 c.place_rows.ensures.0, c.order_rows.ensures.1, omega arith, omega arith, omega arith, c.place_rows.ensures.1)
