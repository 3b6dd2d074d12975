-- `places::cap` meets its contract.
-- Assumes nothing.
use Rattle.places.proofs.Uses as laws
use Rattle.number.proofs.Tools.{arith}
use Rattle.places.proofs.cap.Goals as goal

pub returns-then-p-le-FILE_LIMIT : goal.returns-then-p-le-FILE_LIMIT
returns-then-p-le-FILE_LIMIT c = laws.cap_low _ (omega arith)

pub returns : goal.returns
returns c = laws.cap_high _ (omega arith)
