-- `mend::reports::step_up` meets its contract.
-- Assumes nothing.
use Rattle.mend.proofs.Steps.{step_is}
use Rattle.number.proofs.Tools.{arith}
use Rattle.mend.proofs.reports.step_up.Goals as goal

pub returns : goal.returns
returns c = step_is _ c.args.i (λ e. omega arith)
