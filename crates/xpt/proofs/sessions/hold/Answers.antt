-- `xpt::sessions::hold` meets its contract: the only command leaves nothing to go on with.
-- Assumes nothing.
use Rattle.number.proofs.Tools.{rules}
use Rattle.number.proofs.Scans.{clash}
use Rattle.xpt.proofs.sessions.hold.Goals as goal

pub returns-then-in_batch : goal.returns-then-in_batch
returns-then-in_batch c = (c.run_all.ensures, λ e. clash c.args.in_batch c.if-in_batch.true e)

pub run_one-requires : goal.run_one-requires
run_one-requires c =
    let p = c.requires in
    (p.1.0, (search rules, p.1.1 c.if-in_batch.false))
