-- `salvage::reports::put_report` meets its contract.
-- Assumes nothing.
use Rattle.salvage.proofs.Tables.{none_put, one_put}
use Rattle.salvage.proofs.reports.put_report.Goals as goal

pub returns-then-number-eq0 : goal.returns-then-number-eq0
returns-then-number-eq0 c = let z = c.if-number-eq0.true in ((none_put _ _ _ c.args.indexes.now z).0, (none_put _ _ _ _ z).1, (none_put _ _ _ _ z).1, (none_put _ _ _ _ z).1)

pub returns : goal.returns
returns c = let z = c.if-number-eq0.false in ((one_put _ _ _ c.args.indexes.now z).0, (one_put _ _ _ _ z).1, (one_put _ _ _ _ z).1, (one_put _ _ _ _ z).1)
