use Rattle.std.proofs.Common.{sym}
use borrow.Author.Tests.{not-false}
use Rattle.number.proofs.Tools.{subst}
use Rattle.feed.specs.Input.{Skips}
use Rattle.feed.proofs.InputLaws.{first_whole, Skips-line, Skips-all}
use Rattle.feed.proofs.skip.Goals as goal

pub returns-then-stop-feed : goal.returns-then-stop-feed
returns-then-stop-feed c =
    subst (Skips c.args.input.now c.args.feed) (sym c.feed_from.ensures)
    (Skips-line _ _ _ c.requires.0 c.requires.1 (first_whole _ _ _ c.requires.0 c.newline_from-stop.ensures) c.if-stop-feed.true (not-false _ c.if-not-feed.false))

pub returns : goal.returns
returns c =
    subst (Skips c.args.input.now c.args.feed) (sym c.feed_from-2.ensures)
    (Skips-all _ _ c.requires.0 _ c.requires.1 c.newline_from-stop.ensures c.if-stop-feed.false (not-false _ c.if-not-feed.false))
