-- `made::normal` meets its contract.
-- Assumes nothing.
use Rattle.number.proofs.Tools.{refl, ap, ◌∙◌}
use Rattle.made.specs.Made.{normalised_save, normal_made}
use Rattle.made.proofs.normal.Goals as goal

pub returns : goal.returns
unfolding normal_made
returns c =
    let n = c.normalise-done.ensures in
    record {
      says = rw (← n.0) c.normalised.ensures;
      whose = refl;
      save = c.normalised_save.ensures ∙ ap normalised_save n.0;
      output = n.1;
    }
