use borrow.Author.Tests.{not-false}
use Rattle.feed.proofs.InputLaws.{then_Comes, over_passing}
use Rattle.feed.specs.declared.Coming.TheVariants.{Over}
use Rattle.feed.proofs.next.Goals as goal

pub returns-then-left : goal.returns-then-left
returns-then-left c =
    let k = c.skip-left.ensures in
    then_Comes _ _ _ k Over (over_passing _ _ _ k (not-false _ c.if-not-left.false) c.if-left.true)
