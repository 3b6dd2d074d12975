-- `salvage::work::clear_one` meets its contract.
-- Assumes nothing.
use Rattle.salvage.proofs.Tables.{four_set}
use lib.ListN.{length-set}
use Rattle.number.proofs.Tools.{arith, refl}
use Rattle.salvage.proofs.work.clear_one.Goals as goal

pub bounds-copy-p-2 : goal.bounds-copy-p-2
bounds-copy-p-2 c = simp length-set (omega arith)

pub bounds-copy-p-3 : goal.bounds-copy-p-3
bounds-copy-p-3 c = simp length-set (omega arith)

pub bounds-copy-p-4 : goal.bounds-copy-p-4
bounds-copy-p-4 c = simp length-set (omega arith)

pub returns : goal.returns
returns c = four_set _ _ _ _ refl
