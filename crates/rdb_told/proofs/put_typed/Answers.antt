-- `rdb_told::put_typed` meets its contract.
-- Assumes nothing.
use Rattle.number.proofs.Tools.{arith}
use Rattle.window.proofs.WindowLaws.{Passed-then}
use Rattle.rdb_told.specs.Told.{part_text}
use Rattle.rdb_told.proofs.put_typed.Goals as goal

pub put_text-second-requires : goal.put_text-second-requires
unfolding part_text
put_text-second-requires c = (omega arith, (omega arith, omega arith))

pub put_text-end-requires : goal.put_text-end-requires
unfolding part_text
put_text-end-requires c = (omega arith, (omega arith, omega arith))

pub returns : goal.returns
unfolding part_text
returns c = Passed-then (Passed-then (Passed-then c.put_number-first.ensures.0 c.put_text-second.ensures.0) c.put_text-end.ensures.0) c.put_bytes.ensures
