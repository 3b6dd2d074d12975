-- `writing::field::put_u16` meets its contract.
-- Assumes nothing.
use lib.ListN.{length-set}
use Rattle.number.proofs.Tools.{arith}
use Rattle.writing.proofs.Numbers as laws
use Rattle.writing.proofs.field.put_u16.Goals as goal

pub bounds-out-at-2 : goal.bounds-out-at-2
bounds-out-at-2 c = simp length-set (omega arith)

pub returns : goal.returns
returns c = laws.two_stored c.args.out.now c.args.at c.args.v (omega arith)
