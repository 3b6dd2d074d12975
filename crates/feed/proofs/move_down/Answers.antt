use Rattle.std.proofs.Common.{arith, ◌≡◌, ◌-◌, ℕ}
use Rattle.number.proofs.Tools.{subst}
use Rattle.feed.specs.Input.{MovedDown}
use Rattle.feed.proofs.BufferLaws.{moved_start, moved_next, moved_all}
use Rattle.feed.proofs.move_down.Goals as goal

pub loop-i-init : goal.loop-i-init
loop-i-init c = moved_start _ _

pub loop-i-preserved : goal.loop-i-preserved
loop-i-preserved c = moved_next c.args.input.now c.args.from c.loop-i.i c.loop-i.input (omega arith) c.loop-i.invariant

pub returns : goal.returns
returns c =
    let a = c.args in
    let l = c.loop-i in
    let e : l.i ≡ a.end - a.from = omega arith in
    subst (λ (n : ℕ). MovedDown a.input.now a.from a.end n l.input) e (moved_all _ _ _ l.i l.input e (omega arith) l.auto.input l.invariant)
