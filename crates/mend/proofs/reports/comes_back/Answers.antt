-- `mend::reports::comes_back` meets its contract.
-- Assumes nothing.
use Rattle.mend.proofs.Steps.{step_below, step_climbs, step_home, step_on, steps_out}
use Rattle.number.proofs.Scans.{Misses-none}
use Rattle.number.proofs.Tools.{arith, refl}
use Rattle.mend.proofs.reports.comes_back.Goals as goal

pub loop-t-init : goal.loop-t-init
loop-t-init c = (omega arith, omega arith, refl, Misses-none _)

pub returns-then-i-k : goal.returns-then-i-k
returns-then-i-k c = step_home c.args.ups.now c.args.n c.args.k c.loop-t.t c.loop-t.i _ c.loop-t.invariant.2 c.step_up-i.ensures (omega arith) c.if-i-k.true

pub loop-t-preserved : goal.loop-t-preserved
loop-t-preserved c = let u = c.step_up-i.ensures in (omega arith, rw u (step_below c.args.ups.now c.args.n c.loop-t.i c.requires.3 (omega arith)), step_climbs c.args.ups.now c.args.n c.args.k c.loop-t.t c.loop-t.i _ c.loop-t.invariant.2 u, step_on c.args.ups.now c.args.n c.args.k c.loop-t.t c.loop-t.i _ c.loop-t.invariant.2 u c.if-i-k.false c.loop-t.invariant.3)

pub returns : goal.returns
returns c = steps_out _ _ _ _ (omega arith) c.loop-t.invariant.3
