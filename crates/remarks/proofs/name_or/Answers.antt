-- `remarks::name_or` meets its contract.
-- Assumes nothing.
use Rattle.number.proofs.Tools.{refl, sym, ◌∙◌, is_true, is_false}
use Rattle.remarks.proofs.name_or.Goals as goal

pub returns-then-is_identifier : goal.returns-then-is_identifier
returns-then-is_identifier c = is_true _ _ _ (sym c.is_identifier.ensures ∙ c.if-is_identifier.true) refl

pub returns : goal.returns
returns c = is_false _ _ _ (sym c.is_identifier.ensures ∙ c.if-is_identifier.false) refl
