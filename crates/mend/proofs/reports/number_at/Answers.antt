-- `mend::reports::number_at` meets its contract.
-- Assumes nothing.
use Rattle.mend.specs.Tables.{number_in}
use Rattle.number.proofs.Tools.{refl, sym, ◌∙◌, is_eq, no_eq, is_true, is_false}
use Rattle.mend.proofs.reports.number_at.Goals as goal

pub returns-then-own-ne0 : goal.returns-then-own-ne0
unfolding number_in
returns-then-own-ne0 c = no_eq _ _ _ _ c.if-own-ne0.true refl

pub returns-then-comes_back : goal.returns-then-comes_back
unfolding number_in
returns-then-comes_back c = is_eq _ _ _ _ c.if-own-ne0.false (is_true _ _ _ (sym c.comes_back.ensures ∙ c.if-comes_back.true) refl)

pub returns : goal.returns
unfolding number_in
returns c = is_eq _ _ _ _ c.if-own-ne0.false (is_false _ _ _ (sym c.comes_back.ensures ∙ c.if-comes_back.false) refl)
