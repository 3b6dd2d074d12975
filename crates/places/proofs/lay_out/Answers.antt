-- `places::lay_out` meets its contract.
-- Assumes nothing.
use Rattle.number.proofs.Tools.{arith}
use Rattle.places.proofs.Outs as laws
use Rattle.places.proofs.lay_out.Goals as goal

pub loop-i-init : goal.loop-i-init
loop-i-init c = let p = c.requires in laws.Out-start _ _ _ _ _ _ _ _ p.1.0 p.1.1.0

pub lay_uses-p-requires : goal.lay_uses-p-requires
lay_uses-p-requires c = let o = c.loop-i.invariant in let p = c.requires in let e = c.pointer-e.ensures in (p.0, (o.fresh, (laws.run_up _ _ _ _ _ _ _ _ _ _ _ _ o _ (omega arith) e, (laws.run_in _ _ _ _ _ p.1.0 (omega arith) e, (omega arith, omega arith)))))

pub overflow_add-p : goal.overflow_add-p
overflow_add-p c = let o = c.loop-i.invariant in let p = c.requires in omega (arith, laws.run_in _ _ _ _ _ p.1.0 (omega arith) c.pointer-e.ensures, c.lay_uses-p.ensures.1)

pub loop-i-preserved : goal.loop-i-preserved
loop-i-preserved c = let o = c.loop-i.invariant in let p = c.requires in let w = p.1.0 in let l = c.lay_uses-p.ensures in let e = c.pointer-e.ensures in laws.Out-next _ _ _ _ _ _ _ _ _ _ _ _ o _ _ _ l.0 (laws.run_on _ _ _ _ _ w (omega arith) e) w _ (omega arith) (laws.run_up _ _ _ _ _ _ _ _ _ _ _ _ o _ (omega arith) e) e c.wide-p.ensures.0 c.wide-p.ensures.1 l.1

pub lay_uses-requires : goal.lay_uses-requires
lay_uses-requires c = let o = c.loop-i.invariant in let p = c.requires in (p.0, (o.fresh, (o.low, (omega arith, (omega arith, omega arith)))))

pub returns : goal.returns
returns c = let o = c.loop-i.invariant in let p = c.requires in let l = c.lay_uses.ensures.0 in let r = laws.out_end _ _ _ _ _ _ _ _ _ _ _ _ o _ _ p.1.0 (omega arith) l (omega arith) in (r.0, r.1, omega arith, r.2)
