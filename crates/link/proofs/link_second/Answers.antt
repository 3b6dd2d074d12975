-- `link::link_second` meets its contract.
-- Assumes nothing.
use Rattle.number.proofs.Tools.{sym, ◌∙◌}
use Rattle.link.proofs.Faces as faces
use Rattle.link.proofs.link_second.Goals as goal

pub link_accepted-requires : goal.link_accepted-requires
link_accepted-requires c = (c.requires, faces.accepted _ (sym c.check.ensures.value ∙ c.in-Ok.is))

pub returns-in-Err : goal.returns-in-Err
returns-in-Err c = faces.second_refused _ (sym c.check.ensures.value ∙ c.in-Err.is) _ c.requires _
