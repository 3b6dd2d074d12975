-- `pile::put_more` meets its contract.
-- Assumes nothing.
use Rattle.number.proofs.Tools.{arith}
use Rattle.pile.proofs.Faces as faces
use Rattle.pile.proofs.put_more.Goals as goal

pub returns-then-k-eq0 : goal.returns-then-k-eq0
returns-then-k-eq0 c = faces.put_first _ _ _ _ (omega arith) c.keep.ensures

pub returns : goal.returns
returns c = faces.put_next _ _ _ _ (λ e. omega arith) c.link_front.ensures.0 c.link_front.ensures.1
