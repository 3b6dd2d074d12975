-- `writing::constant::constants_end` meets its contract.
-- Assumes nothing.
use Rattle.number.proofs.Tools.{arith}
use Rattle.reader.proofs.Turns as turns
use Rattle.writing.proofs.constant.constants_end.Goals as goal

pub loop-init : goal.loop-init
loop-init c = turns.Left-start _ _ _ c.requires.0

pub constant_end-p-requires : goal.constant_end-p-requires
constant_end-p-requires c = (turns.left_first _ _ _ _ _ c.loop.invariant (omega arith), omega arith)

pub loop-preserved : goal.loop-preserved
loop-preserved c = turns.Left-next _ _ _ _ _ c.loop.invariant (omega arith) _ c.constant_end-p.ensures

pub returns : goal.returns
returns c = turns.left_done _ _ _ _ _ c.loop.invariant (omega arith)
