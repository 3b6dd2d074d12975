-- `cabi::kinds::method_of_kind` meets its contract.
-- Assumes nothing.
use Rattle.number.proofs.Tools.{arith, ◌∙◌}
use Rattle.cabi.proofs.KindLaws.{getter, setter, plain}
use Rattle.cabi.proofs.kinds.method_of_kind.Goals as goal

pub returns-in-0 : goal.returns-in-0
returns-in-0 c = c.method_by_name.ensures ∙ getter _ _ _ (omega arith)

pub returns-in-1 : goal.returns-in-1
returns-in-1 c = c.method_by_name-in-1.ensures ∙ setter _ _ _ (omega arith)

pub returns-in-2 : goal.returns-in-2
returns-in-2 c = c.method_by_name-in-2.ensures ∙ plain _ _ _ (omega arith)
