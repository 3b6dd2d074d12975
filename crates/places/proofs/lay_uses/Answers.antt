-- `places::lay_uses` meets its contract.
-- Assumes nothing.
use Rattle.places.proofs.Uses as laws
use Rattle.number.proofs.Tools.{arith}
use Rattle.places.proofs.lay_uses.Goals as goal

pub loop-k-init : goal.loop-k-init
loop-k-init c = (omega arith, laws.Laid-none _ _ _ _ _)

pub lay_use-at-requires : goal.lay_use-at-requires
lay_use-at-requires c = let i = c.loop-k.invariant in let p = c.requires in (p.0, (laws.laid_Fresh _ _ _ _ _ _ _ _ i.1 _ (omega arith) p.1.0, (omega arith, omega arith)))

pub loop-k-preserved : goal.loop-k-preserved
loop-k-preserved c = let i = c.loop-k.invariant in let e = c.lay_use-at.ensures in (omega arith, laws.Laid-next _ _ _ _ _ _ _ _ i.1 _ _ (omega arith) (omega arith) e.0 e.1)

pub returns : goal.returns
returns c = let i = c.loop-k.invariant in (laws.Laid-to _ _ _ _ _ _ _ _ _ (omega arith) i.1, omega arith)
