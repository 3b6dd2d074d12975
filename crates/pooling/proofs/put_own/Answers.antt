-- `pooling::put_own` meets its contract.
-- Assumes nothing.
use Rattle.number.proofs.Tools.{arith}
use Rattle.pooling.proofs.Owns as laws
use Rattle.pooling.proofs.put_own.Goals as goal

pub returns-then-b-eq0 : goal.returns-then-b-eq0
returns-then-b-eq0 c = laws.own_none _ _ _ (omega arith)

pub put_body-requires : goal.put_body-requires
put_body-requires c = (laws.Body-Room (λ e. omega arith) c.requires.0, omega arith)

pub returns : goal.returns
returns c = laws.own_some _ _ _ (λ e. omega arith) c.put_body.ensures
