-- `rdb_told::fill` meets its contract.
-- Assumes nothing.
use Rattle.number.proofs.Tools.{arith}
use Rattle.rdb_told.proofs.ToldLaws.{Fills-past, Fills-last, Fills-more}
use Rattle.rdb_told.proofs.fill.Goals as goal

pub returns-then-end-place : goal.returns-then-end-place
returns-then-end-place c = Fills-past _ _ _ _ (omega (arith, c.put_part-arg-1)) c.put_part-end.ensures (omega arith)

pub returns-then-left-le65536 : goal.returns-then-left-le65536
returns-then-left-le65536 c = Fills-last _ _ _ _ (omega (arith, c.put_part-arg-1)) c.put_part-end.ensures (omega arith) (omega arith)

pub returns : goal.returns
returns c = Fills-more _ _ _ _ (omega (arith, c.put_part-arg-1)) c.put_part-end.ensures (omega arith)
