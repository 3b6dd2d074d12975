use Rattle.std.proofs.Common.{sym}
use Rattle.number.proofs.Tools.{subst}
use Rattle.feed.specs.declared.Feed.{Feed}
use Rattle.feed.specs.Input.{PassesLine}
use Rattle.feed.proofs.InputLaws.{passes_line, asks_more}
use Rattle.feed.proofs.without_newline.Goals as goal

pub returns-then-feed-ge-INPUT_ROOM : goal.returns-then-feed-ge-INPUT_ROOM
returns-then-feed-ge-INPUT_ROOM c =
    subst (λ (g : Feed). PassesLine c.args.input.now c.args.feed g) (sym c.feed_from.ensures) (passes_line _ _ c.requires c.if-feed-ge-INPUT_ROOM.true)

pub returns : goal.returns
returns c = asks_more _ _ c.requires c.if-feed-ge-INPUT_ROOM.false c.if-feed.false
