-- `writing::method_record::put_methods` meets its contract.
-- Assumes nothing.
use Rattle.number.proofs.Tools.{arith}
use Rattle.iids.specs.Cells.{cell}
use Rattle.writing.proofs.Methods as laws
use Rattle.writing.proofs.Turns as turns
use Rattle.writing.proofs.method_record.put_methods.Goals as goal

pub loop-k-init : goal.loop-k-init
loop-k-init c = turns.Writing-start (laws.methods_how _ _ _ _) c.requires.0

pub overflow_add-at : goal.overflow_add-at
overflow_add-at c = omega (arith, (laws.method_front _ _ _ _ (turns.writing_first c.loop-k.invariant (omega arith))).0)

pub slice_bounds-put_method-count : goal.slice_bounds-put_method-count
slice_bounds-put_method-count c = c.loop-k.invariant.within

pub slice_bounds-put_method-start : goal.slice_bounds-put_method-start
slice_bounds-put_method-start c = c.loop-k.invariant.within

pub put_method-w-requires : goal.put_method-w-requires
put_method-w-requires c = (turns.writing_first c.loop-k.invariant (omega arith), (omega arith, omega arith))

pub overflow_add-w : goal.overflow_add-w
unfolding cell
overflow_add-w c =
    let v = turns.Writing-next c.loop-k.invariant (omega arith) c.put_method-w.new.out c.put_method-w.ensures in
    omega (arith, v.within, v.kept)

pub loop-k-preserved : goal.loop-k-preserved
unfolding cell
loop-k-preserved c = turns.Writing-next c.loop-k.invariant (omega arith) c.put_method-w.new.out c.put_method-w.ensures

pub shape_of-out : goal.shape_of-out
shape_of-out c = c.loop-k.invariant.kept

pub returns : goal.returns
returns c = turns.writing_done c.loop-k.invariant (omega arith)
