-- `xpt::sessions::serve_all` meets its contract: the first session starts with nothing read, the second, of a batch, with what the first left.
-- Assumes nothing.
use borrow.Author.Tests.{not-false}
use Rattle.number.proofs.Scans.{clash}
use Rattle.xpt.proofs.sessions.serve_all.Goals as goal

pub hold-rest-requires : goal.hold-rest-requires
hold-rest-requires c = (c.start.ensures.fed _, c.requires)

pub hold-requires : goal.hold-requires
hold-requires c =
    let p = c.requires in
    (c.hold-rest.ensures.0, (p.0, λ e. clash c.hold-rest.result.is_going (not-false c.hold-rest.result.is_going c.if-not-rest.false) (c.hold-rest.ensures.1 e)))
