-- `rdb_told::put_alone` meets its contract.
-- Assumes nothing.
use Rattle.number.proofs.Tools.{arith}
use Rattle.window.proofs.WindowLaws.{Passed-then}
use Rattle.rdb_told.specs.Told.{part_text}
use Rattle.rdb_told.proofs.put_alone.Goals as goal

pub put_text-end-requires : goal.put_text-end-requires
unfolding part_text
put_text-end-requires c = (omega arith, (omega arith, omega arith))

pub returns : goal.returns
unfolding part_text
returns c = Passed-then c.put_text-end.ensures.0 c.put_bytes.ensures
