-- `salvage::salvage_in` meets its contract.
-- Assumes nothing.
use Rattle.salvage.proofs.Outcomes.{refuses, front_refused}
use Rattle.typelib.proofs.FrontLaws.{fronted, front_bad}
use Rattle.salvage.proofs.salvage_in.Goals as goal

pub salvage_front-requires : goal.salvage_front-requires
salvage_front-requires c = (fronted _ c.check_front.ensures _ c.in-Ok.is, c.requires)

pub returns-in-Err : goal.returns-in-Err
returns-in-Err c = refuses _ _ _ (front_refused _ _ _ (front_bad _ c.check_front.ensures _ c.in-Err.is))
