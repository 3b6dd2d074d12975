-- `pooling::put_pool` meets its contract.
-- Assumes nothing.
use Rattle.number.proofs.Tools.{arith}
use Rattle.pooling.proofs.Turns as laws
use Rattle.pooling.proofs.put_pool.Goals as goal

pub loop-q-init : goal.loop-q-init
loop-q-init c = laws.store_start _ _ _ _ _ _ _ _ _ _ _ _ c.requires.1.1

pub offset_bounds-before-q : goal.offset_bounds-before-q
offset_bounds-before-q c = omega (arith, c.requires.0.tabled.few)

pub bounds-before-q : goal.bounds-before-q
bounds-before-q c = omega (arith, c.requires.0.tabled.few)

pub pointer-e-requires : goal.pointer-e-requires
pointer-e-requires c = tt

pub overflow_add-w : goal.overflow_add-w
overflow_add-w c = omega (arith, (laws.store_within _ _ _ _ _ _ _ _ _ _ _ c.requires.0 c.loop-q.invariant).1)

pub slice_bounds-put_uses-count : goal.slice_bounds-put_uses-count
slice_bounds-put_uses-count c = (laws.store_within _ _ _ _ _ _ _ _ _ _ _ c.requires.0 c.loop-q.invariant).0

pub slice_bounds-put_uses-start : goal.slice_bounds-put_uses-start
slice_bounds-put_uses-start c = (laws.store_within _ _ _ _ _ _ _ _ _ _ _ c.requires.0 c.loop-q.invariant).0

pub put_uses-w-requires : goal.put_uses-w-requires
put_uses-w-requires c = laws.uses_requires _ _ _ _ _ _ _ _ _ _ _ c.requires.0 c.loop-q.invariant c.loop-q-test.true _ c.pointer-e.ensures

pub overflow_add-w-in-loop-q : goal.overflow_add-w-in-loop-q
overflow_add-w-in-loop-q c =
    let m = laws.uses_done _ _ _ _ _ _ _ _ _ _ _ c.requires.0 c.loop-q.invariant c.loop-q-test.true _ c.pointer-e.ensures c.put_uses-w.new.out _ c.put_uses-w.ensures in
    omega (arith, (laws.mid_within _ _ _ _ _ _ _ _ _ _ _ c.requires.0 m).1)

pub offset_bounds-bodies-q : goal.offset_bounds-bodies-q
offset_bounds-bodies-q c = omega (arith, c.requires.0.tabled.few)

pub bounds-bodies-q : goal.bounds-bodies-q
bounds-bodies-q c = omega (arith, c.requires.0.tabled.few)

pub pointer-b-requires : goal.pointer-b-requires
pointer-b-requires c = tt

pub overflow_add-w-in-loop-q-2 : goal.overflow_add-w-in-loop-q-2
overflow_add-w-in-loop-q-2 c =
    let m = laws.uses_done _ _ _ _ _ _ _ _ _ _ _ c.requires.0 c.loop-q.invariant c.loop-q-test.true _ c.pointer-e.ensures c.put_uses-w.new.out _ c.put_uses-w.ensures in
    omega (arith, (laws.mid_within _ _ _ _ _ _ _ _ _ _ _ c.requires.0 m).1)

pub pointed-requires : goal.pointed-requires
pointed-requires c =
    let m = laws.uses_done _ _ _ _ _ _ _ _ _ _ _ c.requires.0 c.loop-q.invariant c.loop-q-test.true _ c.pointer-e.ensures c.put_uses-w.new.out _ c.put_uses-w.ensures in
    omega (arith, (laws.mid_within _ _ _ _ _ _ _ _ _ _ _ c.requires.0 m).1)

pub offset_bounds-owns-q : goal.offset_bounds-owns-q
offset_bounds-owns-q c = omega (arith, c.requires.0.tabled.few)

pub bounds-owns-q : goal.bounds-owns-q
bounds-owns-q c = omega (arith, c.requires.0.tabled.few)

pub slice_bounds-put_own-count : goal.slice_bounds-put_own-count
slice_bounds-put_own-count c =
    let m = laws.uses_done _ _ _ _ _ _ _ _ _ _ _ c.requires.0 c.loop-q.invariant c.loop-q-test.true _ c.pointer-e.ensures c.put_uses-w.new.out _ c.put_uses-w.ensures in
    (laws.mid_within _ _ _ _ _ _ _ _ _ _ _ c.requires.0 m).0

pub slice_bounds-put_own-start : goal.slice_bounds-put_own-start
slice_bounds-put_own-start c =
    let m = laws.uses_done _ _ _ _ _ _ _ _ _ _ _ c.requires.0 c.loop-q.invariant c.loop-q-test.true _ c.pointer-e.ensures c.put_uses-w.new.out _ c.put_uses-w.ensures in
    (laws.mid_within _ _ _ _ _ _ _ _ _ _ _ c.requires.0 m).0

pub put_own-w-requires : goal.put_own-w-requires
put_own-w-requires c =
    let m = laws.uses_done _ _ _ _ _ _ _ _ _ _ _ c.requires.0 c.loop-q.invariant c.loop-q-test.true _ c.pointer-e.ensures c.put_uses-w.new.out _ c.put_uses-w.ensures in
    (laws.own_requires _ _ _ _ _ _ _ _ _ _ _ c.requires.0 m _ c.pointer-b.ensures, c.requires.1.0)

pub overflow_add-w-in-loop-q-3 : goal.overflow_add-w-in-loop-q-3
overflow_add-w-in-loop-q-3 c =
    let m = laws.uses_done _ _ _ _ _ _ _ _ _ _ _ c.requires.0 c.loop-q.invariant c.loop-q-test.true _ c.pointer-e.ensures c.put_uses-w.new.out _ c.put_uses-w.ensures in
    let n = laws.own_done _ _ _ _ _ _ _ _ _ _ _ c.requires.0 m _ c.pointer-b.ensures _ c.pointed.ensures c.put_own-w.new.out _ c.put_own-w.ensures in
    omega (arith, (laws.store_within _ _ _ _ _ _ _ _ _ _ _ c.requires.0 n).1)

pub loop-q-preserved : goal.loop-q-preserved
loop-q-preserved c =
    let m = laws.uses_done _ _ _ _ _ _ _ _ _ _ _ c.requires.0 c.loop-q.invariant c.loop-q-test.true _ c.pointer-e.ensures c.put_uses-w.new.out _ c.put_uses-w.ensures in
    laws.own_done _ _ _ _ _ _ _ _ _ _ _ c.requires.0 m _ c.pointer-b.ensures _ c.pointed.ensures c.put_own-w.new.out _ c.put_own-w.ensures

pub overflow_add-w-2 : goal.overflow_add-w-2
overflow_add-w-2 c = omega (arith, (laws.store_within _ _ _ _ _ _ _ _ _ _ _ c.requires.0 c.loop-q.invariant).1)

pub slice_bounds-put_uses-count-2 : goal.slice_bounds-put_uses-count-2
slice_bounds-put_uses-count-2 c = (laws.store_within _ _ _ _ _ _ _ _ _ _ _ c.requires.0 c.loop-q.invariant).0

pub slice_bounds-put_uses-start-2 : goal.slice_bounds-put_uses-start-2
slice_bounds-put_uses-start-2 c = (laws.store_within _ _ _ _ _ _ _ _ _ _ _ c.requires.0 c.loop-q.invariant).0

pub put_uses-requires : goal.put_uses-requires
put_uses-requires c = laws.end_requires _ _ _ _ _ _ _ _ _ _ _ c.requires.0 c.loop-q.invariant (omega arith)

pub overflow_add-result : goal.overflow_add-result
overflow_add-result c = let p = laws.end_done _ _ _ _ _ _ _ _ _ _ _ c.requires.0 c.loop-q.invariant (omega arith) c.put_uses.new.out _ c.put_uses.ensures _ c.requires.0.tabled in omega (arith, p.size, c.requires.0.small)

pub shape_of-out : goal.shape_of-out
shape_of-out c = laws.end_kept _ _ _ _ _ _ _ _ _ _ _ c.requires.0 c.loop-q.invariant (omega arith) c.put_uses.new.out _ c.put_uses.ensures

pub returns : goal.returns
returns c = (laws.end_done _ _ _ _ _ _ _ _ _ _ _ c.requires.0 c.loop-q.invariant (omega arith) c.put_uses.new.out _ c.put_uses.ensures, c.loop-q.invariant.long)
