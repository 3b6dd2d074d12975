-- `adopt::put_zeros` meets its contract. The loop's invariant: i zero bytes are stored from `at` on.
-- Assumes nothing.
use lib.ListN.{length-set}
use Rattle.std.specs.Prelude.{◌≡◌, ◌+◌}
use Rattle.number.proofs.Tools.{refl, arith}
use Rattle.adopt.proofs.Stored.{zeros_more}
use Rattle.adopt.proofs.put_zeros.Goals as goal

pub loop-i-init : goal.loop-i-init
loop-i-init c = (refl, refl)

pub loop-i-preserved : goal.loop-i-preserved
loop-i-preserved c =
    let a = c.args in
    (simp length-set c.loop-i.invariant.0, rw c.loop-i.invariant.1 (zeros_more a.out.now a.at c.loop-i.i (a.at + c.loop-i.i) refl))

pub returns : goal.returns
returns c =
    let e : c.loop-i.i ≡ c.args.n = omega arith in
    rw (← e) c.loop-i.invariant.1
