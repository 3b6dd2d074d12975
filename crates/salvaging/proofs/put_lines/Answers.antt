-- `salvaging::put_lines` meets its contract.
-- Assumes nothing.
use Rattle.number.proofs.Tools.{arith}
use Rattle.salvaging.proofs.Lines.{lines_none, lines_more, lines_done}
use Rattle.salvaging.proofs.put_lines.Goals as goal

pub loop-k-init : goal.loop-k-init
loop-k-init c = (omega arith, omega arith, lines_none _ _ _ _ _)

pub loop-k-preserved : goal.loop-k-preserved
loop-k-preserved c =
    let i = c.loop-k.invariant in
    (omega arith, omega (arith, c.put_line-end.ensures.1), lines_more _ _ _ _ _ _ _ _ _ _ i.2 c.put_line-end.ensures.0)

pub returns : goal.returns
returns c = lines_done _ _ _ _ _ _ _ _ _ (omega arith) c.loop-k.invariant
