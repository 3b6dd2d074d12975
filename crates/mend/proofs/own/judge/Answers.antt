-- `mend::own::judge` meets its contract.
-- Assumes nothing.
use Rattle.number.proofs.Tools.{arith}
use Rattle.method.proofs.SeenLaws.{seen_none, seen_nowhere}
use Rattle.mend.proofs.own.judge.Goals as goal

pub judge_with-requires : goal.judge_with-requires
judge_with-requires c = (c.requires.0, c.requires.1, omega arith, omega arith, omega arith, seen_none _ _)

pub judge_with-requires-2 : goal.judge_with-requires-2
judge_with-requires-2 c = (c.requires.0, c.requires.1, omega arith, omega arith, omega arith, seen_nowhere _ _)
