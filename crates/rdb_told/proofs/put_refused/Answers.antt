-- `rdb_told::put_refused` meets its contract.
-- Assumes nothing.
use Rattle.number.proofs.Tools.{arith}
use Rattle.text.specs.Line.{line_of}
use Rattle.window.proofs.WindowLaws.{Passed-then}
use Rattle.rdb_told.proofs.put_refused.Goals as goal

pub put_number-end-requires : goal.put_number-end-requires
unfolding line_of
put_number-end-requires c = (omega arith, omega arith)

pub returns : goal.returns
unfolding line_of
returns c = Passed-then (Passed-then c.put_number-place.ensures.0 c.put_number-end.ensures.0) c.put_bytes.ensures
