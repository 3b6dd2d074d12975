use Rattle.std.proofs.Common.{arith}
use Rattle.feed.proofs.InputLaws.{none_empty, none_next}
use Rattle.feed.proofs.newline_from.Goals as goal

pub loop-i-init : goal.loop-i-init
loop-i-init c = none_empty _ _ _ (omega arith)

pub loop-i-preserved : goal.loop-i-preserved
loop-i-preserved c = none_next c.args.input.now c.args.from c.loop-i.i c.loop-i.invariant (λ e. omega arith)
