-- `made::link` meets its contract.
-- Assumes nothing.
use Rattle.number.proofs.Tools.{ap, ◌∙◌}
use Rattle.made.specs.Made.{linked_save, linked_whose, link_made}
use Rattle.made.proofs.link.Goals as goal

pub returns : goal.returns
unfolding link_made
returns c =
    let n = c.link-done.ensures in
    record {
      says = rw (← n.0) c.linked.ensures;
      whose = c.linked_whose.ensures ∙ ap linked_whose n.0;
      save = c.linked_save.ensures ∙ ap linked_save n.0;
      output = n.1;
    }
