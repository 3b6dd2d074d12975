-- `rdb_told::put_number` meets its contract.
-- Assumes nothing.
use Rattle.number.proofs.Tools.{arith}
use Rattle.rdb_told.proofs.ToldLaws.{label_long}
use Rattle.rdb_told.proofs.put_number.Goals as goal

pub returns : goal.returns
returns c = (c.put_labelled.ensures, label_long c.args.label.now c.args.n (omega arith) (omega arith) c.put_labelled.ensures)
