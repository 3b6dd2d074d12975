-- `mend::own::own_mark` meets its contract.
-- Assumes nothing.
use Rattle.mend.proofs.Marks.{mark_end, mark_refused}
use Rattle.mend.specs.Tables.{own_mark, own_up}
use Rattle.reading.proofs.Rows.{accepted}
use Rattle.number.proofs.Tools.{arith}
use Rattle.mend.proofs.own.own_mark.Goals as goal

pub parent_of-requires : goal.parent_of-requires
parent_of-requires c = (c.requires.0, omega arith, accepted _ c.in-Ok.is c.check_again.ensures.0)

pub returns-in-Ok : goal.returns-in-Ok
unfolding own_mark own_up
returns-in-Ok c =
    let own = c.check_again.ensures in
    (mark_end _ (accepted _ c.in-Ok.is own.0) c.parent_of.ensures, own.1)

pub returns-in-Err : goal.returns-in-Err
unfolding own_mark
returns-in-Err c =
    let own = c.check_again.ensures in
    (mark_refused _ _ c.in-Err.is own.0, own.1)
