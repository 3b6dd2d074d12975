-- `rdb_line::put_constant` meets its contract.
-- Assumes nothing.
use Rattle.number.proofs.Tools.{arith}
use Rattle.rdb_line.proofs.LineLaws.{constant-Passed}
use Rattle.rdb_line.proofs.put_constant.Goals as goal

pub put_value-path-requires : goal.put_value-path-requires
put_value-path-requires c = (omega arith, c.requires.2, omega arith)

pub put_end-requires : goal.put_end-requires
put_end-requires c = (omega arith, c.requires.1, omega (arith, c.put_value-path.ensures.1))

pub returns : goal.returns
returns c =
    let a = c.args in
    let value = c.put_value-path.ensures in
    let end = c.put_end.ensures in
    (constant-Passed a.file.now _ a.o value.0 end.0, omega (arith, value.1, end.1))
