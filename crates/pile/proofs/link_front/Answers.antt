-- `pile::link_front` meets its contract.
-- Assumes nothing.
use Rattle.number.proofs.Tools.{sym, arith}
use lib.Seq.{take_all, length-take-le}
use Rattle.pile.proofs.link_front.Goals as goal

pub returns-then-held-n : goal.returns-then-held-n
returns-then-held-n c =
    let a = c.args in
    let e = c.link.ensures in
    rw (take_all a.n a.held.now (omega arith)) (e.0, e.1)

pub slice_bounds-link-end : goal.slice_bounds-link-end
slice_bounds-link-end c = let a = c.args in sym (length-take-le a.n a.held.now (omega arith))
