use Rattle.std.proofs.Common.{sym}
use Rattle.number.proofs.Tools.{subst}
use Rattle.feed.specs.declared.Feed.{Feed}
use Rattle.feed.specs.Input.{TakesLine}
use Rattle.feed.proofs.InputLaws.{takes_last, over_plain}
use Rattle.feed.proofs.last_line.Goals as goal

pub returns-then-feed : goal.returns-then-feed
returns-then-feed c = over_plain _ _ c.requires.0 c.requires.1.1 c.if-feed.true

pub returns : goal.returns
returns c =
    let f = c.args.feed in
    subst (λ (g : Feed). TakesLine c.args.input.now f (record { from = f.from; end = f.end; feed = g })) (sym c.feed_from.ensures)
    (takes_last _ f c.requires.0 c.requires.1.0 c.requires.1.1 c.if-feed.false)
