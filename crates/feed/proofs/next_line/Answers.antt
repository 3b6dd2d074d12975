use Rattle.std.proofs.Common.{sym}
use Rattle.number.proofs.Tools.{subst}
use Rattle.feed.specs.declared.Feed.{Feed}
use Rattle.feed.specs.Input.{TakesLine}
use Rattle.feed.proofs.InputLaws.{first_whole, takes_line}
use Rattle.feed.proofs.next_line.Goals as goal

pub returns-then-stop-feed : goal.returns-then-stop-feed
returns-then-stop-feed c =
    let f = c.args.feed in
    subst (λ (g : Feed). TakesLine c.args.input.now f (record { from = f.from; end = c.newline_from-stop.result; feed = g })) (sym c.feed_from.ensures)
    (takes_line _ f _ c.requires.0 c.requires.1.0 (first_whole _ f _ c.requires.0 c.newline_from-stop.ensures) c.if-stop-feed.true c.requires.1.1)
