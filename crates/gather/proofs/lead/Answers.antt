-- `gather::lead` meets its contract.
-- Assumes nothing.
use Rattle.number.proofs.Tools.{arith, sym}
use Rattle.gather.proofs.Leads as laws
use Rattle.gather.proofs.lead.Goals as goal

pub returns-then-p-eq0 : goal.returns-then-p-eq0
returns-then-p-eq0 c = sym (laws.led_none _ _ _ (omega arith))

pub returns-then-r-n : goal.returns-then-r-n
returns-then-r-n c = sym (laws.led_low _ _ _ (λ e. omega arith) (omega arith))

pub returns : goal.returns
returns c = sym (laws.led_high _ _ _ (λ e. omega arith) (omega arith))
