-- `made::adopt` meets its contract.
-- Assumes nothing.
use Rattle.number.proofs.Tools.{arith, sym, ◌∙◌}
use Rattle.made.proofs.AdoptLaws.{adopt_within, written-Makes, refused-Makes}
use Rattle.made.proofs.adopt.Goals as goal

pub slice_bounds-check-end : goal.slice_bounds-check-end
slice_bounds-check-end c = omega (arith, c.adopt.auto.out, adopt_within _ _ (sym c.in-Ok.is ∙ c.adopt.ensures.0))

pub returns-in-Ok : goal.returns-in-Ok
returns-in-Ok c =
    let a = c.adopt.ensures in
    written-Makes _ _ _ _ _ a.1 _ _ (sym c.in-Ok.is ∙ a.0) _ c.check-verdict.ensures.value c.adopted.ensures

pub returns-in-Err : goal.returns-in-Err
returns-in-Err c =
    let a = c.adopt.ensures in
    refused-Makes _ _ _ _ _ a.1 _ _ (sym c.in-Err.is ∙ a.0) c.refused.ensures
