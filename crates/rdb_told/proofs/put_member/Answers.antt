-- `rdb_told::put_member` meets its contract.
-- Assumes nothing.
use Rattle.number.proofs.Tools.{arith}
use Rattle.window.proofs.WindowLaws.{Passed-then}
use Rattle.rdb_told.specs.Told.{part_text}
use Rattle.rdb_told.proofs.put_member.Goals as goal

pub put_text-end-requires : goal.put_text-end-requires
unfolding part_text
put_text-end-requires c = (omega arith, (omega arith, omega arith))

pub returns : goal.returns
unfolding part_text
returns c = Passed-then (Passed-then c.put_number-next.ensures.0 c.put_text-end.ensures.0) c.put_bytes.ensures
