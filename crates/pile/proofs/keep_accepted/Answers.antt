-- `pile::keep_accepted` meets its contract.
-- Assumes nothing.
use Rattle.number.proofs.Tools.{arith}
use Rattle.pile.proofs.Faces as faces
use Rattle.pile.proofs.keep_accepted.Goals as goal

pub returns-then-out-n : goal.returns-then-out-n
returns-then-out-n c = rw c.at.ensures (faces.whole_short _ c.requires _ (omega arith))

pub returns : goal.returns
returns c = let e = c.put_bytes.ensures in faces.whole_Kept _ c.requires _ (omega (arith, e.0)) e.1 (omega arith)
