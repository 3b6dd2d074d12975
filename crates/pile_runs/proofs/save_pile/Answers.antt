-- `pile_runs::save_pile` meets its contract: the bytes lie within the buffer that they are in.
-- Assumes nothing.
use Rattle.number.proofs.Tools.{subst}
use Rattle.number.specs.Limits.{file_limit}
use Rattle.piling.specs.Answers.{SavesIn}
use Rattle.pile_runs.proofs.save_pile.Goals as goal

pub save_output-requires : goal.save_output-requires
save_output-requires c = subst (SavesIn file_limit) c.in-First.is c.requires

pub save_output-requires-in-Second : goal.save_output-requires-in-Second
save_output-requires-in-Second c = subst (SavesIn file_limit) c.in-Second.is c.requires
