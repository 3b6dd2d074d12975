-- `salvaging::close` meets its contract.
-- Assumes nothing.
use Rattle.salvaging.proofs.Lines.{closed_one, closed_plain}
use Rattle.salvaging.proofs.close.Goals as goal

pub returns-then-is_one : goal.returns-then-is_one
returns-then-is_one c = closed_one _ _ _ _ _ _ c.if-is_one.true c.tab.ensures c.put_bytes.ensures

pub returns : goal.returns
returns c = closed_plain _ _ _ _ c.if-is_one.false c.tab.ensures
