-- `held::fetch_second` meets its contract.
-- Assumes nothing.
use Rattle.number.proofs.Tools.{arith}
use Rattle.held.proofs.HeldLaws.{second_Held}
use Rattle.held.proofs.fetch_second.Goals as goal

pub fetch-asked-requires : goal.fetch-asked-requires
fetch-asked-requires c = (omega arith, c.requires.0)

pub returns : goal.returns
returns c n =
    let a = c.args in
    record { tidy = c.fetch-asked.ensures.tidy; held = second_Held _ _ _ _ _ _ _ _ n c.requires.1 c.fetch-asked.ensures c.second_wanting.result c.second_wanting.ensures }
