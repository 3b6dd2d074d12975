-- `made::salvage` meets its contract.
-- Assumes nothing.
use Rattle.number.proofs.Tools.{refl, ap, ◌∙◌}
use Rattle.made.specs.Made.{normalised_save, salvage_made}
use Rattle.made.proofs.salvage.Goals as goal

pub returns : goal.returns
unfolding salvage_made
returns c =
    let told = c.salvage-told.ensures in
    record {
      says = told.said;
      whose = refl;
      save = c.normalised_save.ensures ∙ ap normalised_save told.done;
      output = told.output;
    }
