-- `looking::reason` meets its contract.
-- Assumes nothing.
use Rattle.std.proofs.Common.{arith, ◌∙◌}
use Rattle.looking.proofs.ReasonLaws.{reason_low, reason_high}
use Rattle.looking.proofs.reason.Goals as goal

pub returns-then-error-le0-clause-value : goal.returns-then-error-le0-clause-value
returns-then-error-le0-clause-value c = reason_low _ _ c.errno-error.ensures (grind arith)

pub returns-clause-value : goal.returns-clause-value
returns-clause-value c = grind arith ∙ reason_high _ _ c.errno-error.ensures (λ h. grind arith)
