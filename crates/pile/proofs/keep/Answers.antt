-- `pile::keep` meets its contract.
-- Assumes nothing.
use Rattle.number.proofs.Tools.{sym, ◌∙◌}
use Rattle.link.proofs.Faces.{accepted}
use Rattle.pile.proofs.Faces as faces
use Rattle.pile.proofs.keep.Goals as goal

pub keep_accepted-requires : goal.keep_accepted-requires
keep_accepted-requires c = accepted _ (sym c.check.ensures.value ∙ c.in-Ok.is)

pub returns-in-Err : goal.returns-in-Err
returns-in-Err c = faces.whole_refused _ (sym c.check.ensures.value ∙ c.in-Err.is) _
