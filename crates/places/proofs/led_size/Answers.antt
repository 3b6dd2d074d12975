-- `places::led_size` meets its contract.
-- Assumes nothing.
use Rattle.places.proofs.Uses as laws
use Rattle.number.proofs.Tools.{arith}
use Rattle.places.proofs.led_size.Goals as goal

pub name_size-requires : goal.name_size-requires
name_size-requires c = let l = c.requires in (l.here (omega arith), l.small)

pub returns-then-w-le-FILE_LIMIT : goal.returns-then-w-le-FILE_LIMIT
returns-then-w-le-FILE_LIMIT c = let l = c.requires in let e = c.name_size.ensures in (laws.size_here _ _ _ (omega arith) e, omega (arith, e, l.small, laws.size_small _ _ (l.here (omega arith))))

pub name_size-requires-2 : goal.name_size-requires-2
name_size-requires-2 c = let l = c.requires in (l.there (omega arith), l.other_small)

pub returns : goal.returns
returns c = let l = c.requires in let e = c.name_size-2.ensures in (laws.size_there _ _ _ (omega arith) e, omega (arith, e, l.other_small, laws.size_small _ _ (l.there (omega arith))))
