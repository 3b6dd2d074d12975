-- `runs::answer` meets its contract: nothing is wanting, or a line says what is.
-- Assumes nothing.
use Rattle.number.proofs.Tools.{subst}
use Rattle.held.specs.Held.{WhereHad}
use Rattle.runs.proofs.answer.Goals as goal

pub reply-requires : goal.reply-requires
reply-requires c =
    let p = c.requires in
    (p.0, (p.1.0, subst (WhereHad _) c.in-Nothing.is p.1.1))
