-- `joining::union::join_mates` meets its contract.
-- Assumes nothing.
use Rattle.tables.proofs.UseLaws.{blank_mates}
use Rattle.stages.proofs.Knows as knows
use Rattle.stages.proofs.Held.{given_few}
use Rattle.number.proofs.Tools.{arith}
use Rattle.joining.proofs.union.join_mates.Goals as goal

pub note_mates-requires : goal.note_mates-requires
note_mates-requires c = let p = c.requires in (omega (arith, given_few p.0), omega arith, omega (arith, given_few p.0), omega arith, omega arith, blank_mates _ (omega (arith, given_few p.0)))

pub join_iids-requires : goal.join_iids-requires
join_iids-requires c = let p = c.requires in (p.0, knows.mated _ _ _ _ _ _ p.1 c.note_mates.ensures.0, omega arith, omega arith, c.note_mates.ensures.1)
