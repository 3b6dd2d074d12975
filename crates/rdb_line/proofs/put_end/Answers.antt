-- `rdb_line::put_end` meets its contract.
-- Assumes nothing.
use Rattle.number.proofs.Tools.{arith}
use Rattle.rdb_line.proofs.LineLaws.{end_Passed}
use Rattle.rdb_line.proofs.put_end.Goals as goal

pub put_path-end-requires : goal.put_path-end-requires
put_path-end-requires c = (omega arith, c.requires.1, omega (arith, c.put_bytes-path.ensures.next))

pub put_bytes-requires : goal.put_bytes-requires
put_bytes-requires c = omega (arith, c.put_bytes-path.ensures.next, c.put_path-end.ensures.1)

pub returns : goal.returns
returns c = (end_Passed _ c.put_bytes-path.ensures c.put_path-end.ensures.0 c.put_bytes.ensures, omega (arith, c.put_bytes-path.ensures.next, c.put_path-end.ensures.1, c.put_bytes.ensures.next))
