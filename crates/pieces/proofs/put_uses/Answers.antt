-- `pieces::put_uses` meets its contract.
-- Assumes nothing.
use Rattle.number.proofs.Tools.{arith}
use Rattle.pieces.proofs.Uses as laws
use Rattle.pieces.proofs.put_uses.Goals as goal

pub loop-k-init : goal.loop-k-init
loop-k-init c = laws.Storing-start c.requires.1.1

pub overflow_add-p : goal.overflow_add-p
overflow_add-p c = let i = c.loop-k.invariant in omega (arith, laws.storing_within i, laws.storing_kept i)

pub slice_bounds-put_use-count : goal.slice_bounds-put_use-count
slice_bounds-put_use-count c = laws.storing_within c.loop-k.invariant

pub slice_bounds-put_use-start : goal.slice_bounds-put_use-start
slice_bounds-put_use-start c = laws.storing_within c.loop-k.invariant

pub put_use-w-requires : goal.put_use-w-requires
put_use-w-requires c =
    let s = c.requires.0 in
    (s.each _ (omega arith), (omega (arith, s.many), laws.storing_first c.loop-k.invariant (omega arith)))

pub overflow_add-w : goal.overflow_add-w
overflow_add-w c =
    let v = laws.Storing-next c.loop-k.invariant (omega arith) c.put_use-w.new.out c.put_use-w.ensures in
    omega (arith, laws.storing_within v, laws.storing_kept v)

pub loop-k-preserved : goal.loop-k-preserved
loop-k-preserved c = laws.Storing-next c.loop-k.invariant (omega arith) c.put_use-w.new.out c.put_use-w.ensures

pub shape_of-out : goal.shape_of-out
shape_of-out c = laws.storing_kept c.loop-k.invariant

pub returns : goal.returns
returns c = laws.storing_done c.loop-k.invariant (omega arith)
