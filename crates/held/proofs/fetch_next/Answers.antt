-- `held::fetch_next` meets its contract.
-- Assumes nothing.
use Rattle.number.proofs.Tools.{subst}
use Rattle.held.specs.Held.{WhereHad}
use Rattle.held.proofs.fetch_next.Goals as goal

pub fetch_second-requires : goal.fetch_second-requires
fetch_second-requires c =
    let p = c.requires in
    (p.0, subst (WhereHad _) c.in-Nothing.is p.1)

pub returns-in-Nothing : goal.returns-in-Nothing
returns-in-Nothing c = c.fetch_second.ensures

pub returns-in-Input : goal.returns-in-Input
returns-in-Input c n = record { tidy = c.requires.0.0; held = tt }

pub returns-in-First : goal.returns-in-First
returns-in-First c n = record { tidy = c.requires.0.0; held = tt }

pub returns-in-Second : goal.returns-in-Second
returns-in-Second c n = record { tidy = c.requires.0.0; held = tt }
