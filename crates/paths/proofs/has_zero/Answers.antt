use Rattle.paths.proofs.Laws.{zero_found}
use Rattle.paths.proofs.has_zero.Goals as goal

pub returns : goal.returns
returns c = zero_found _ _ c.contains.ensures.cases
