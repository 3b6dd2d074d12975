-- `rdb_told::put_entry` meets its contract.
-- Assumes nothing.
use Rattle.number.proofs.Tools.{arith}
use Rattle.window.proofs.WindowLaws.{Passed-then}
use Rattle.rdb_told.specs.Told.{part_text}
use Rattle.rdb_told.proofs.put_entry.Goals as goal

pub put_number-name-requires : goal.put_number-name-requires
unfolding part_text
put_number-name-requires c = (omega arith, omega arith)

pub put_text-end-requires : goal.put_text-end-requires
unfolding part_text
put_text-end-requires c = (omega arith, (omega arith, omega arith))

pub returns : goal.returns
unfolding part_text
returns c = Passed-then (Passed-then (Passed-then c.put_number-offset.ensures.0 c.put_number-name.ensures.0) c.put_text-end.ensures.0) c.put_bytes.ensures
