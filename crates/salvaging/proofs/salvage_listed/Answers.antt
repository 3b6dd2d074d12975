-- `salvaging::salvage_listed` meets its contract.
-- Assumes nothing.
use Rattle.number.proofs.Tools.{arith}
use Rattle.salvaging.proofs.Outcomes.{changed_few, Tells-written, Tells-refused}
use Rattle.salvaging.proofs.salvage_listed.Goals as goal

pub written-requires : goal.written-requires
written-requires c = changed_few _ _ (omega arith) (omega arith) (omega arith) c.salvage_with.ensures _ c.in-Ok.is

pub returns-in-Ok : goal.returns-in-Ok
returns-in-Ok c = Tells-written _ _ (omega arith) (omega arith) (omega arith) c.salvage_with.ensures _ _ _ _ _ c.in-Ok.is c.written.ensures

pub returns-in-Err : goal.returns-in-Err
returns-in-Err c = Tells-refused _ _ (omega arith) (omega arith) (omega arith) c.salvage_with.ensures _ _ _ _ _ c.in-Err.is c.refused.ensures
