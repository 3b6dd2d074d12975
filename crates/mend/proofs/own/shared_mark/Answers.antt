-- `mend::own::shared_mark` meets its contract.
-- Assumes nothing.
use Rattle.mend.proofs.Marks.{mark_shared}
use Rattle.number.proofs.Tools.{arith}
use Rattle.mend.proofs.own.shared_mark.Goals as goal

pub returns-then-j-k : goal.returns-then-j-k
returns-then-j-k c = (mark_shared _ _ _ _ _ _ _ _ _ _ c.requires.2 c.first_pointing-j.ensures (omega arith) c.u32_at-q.ensures (omega arith), c.requires.3)
