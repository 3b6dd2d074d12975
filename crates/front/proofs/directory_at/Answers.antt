-- `front::directory_at` meets its contract.
-- Assumes nothing.
use Rattle.number.proofs.Tools.{arith}
use Rattle.front.proofs.Fields as laws
use Rattle.front.proofs.directory_at.Goals as goal

pub returns-then-c-eq0 : goal.returns-then-c-eq0
returns-then-c-eq0 c = laws.directory_none _ (omega arith)

pub returns : goal.returns
returns c = laws.directory_some _ (λ e. omega arith)
