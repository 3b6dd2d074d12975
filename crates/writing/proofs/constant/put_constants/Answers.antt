-- `writing::constant::put_constants` meets its contract.
-- Assumes nothing.
use Rattle.number.proofs.Tools.{arith}
use Rattle.iids.specs.Cells.{cell}
use Rattle.writing.proofs.Methods as laws
use Rattle.writing.proofs.Turns as turns
use Rattle.writing.proofs.constant.put_constants.Goals as goal

pub loop-k-init : goal.loop-k-init
loop-k-init c = turns.Writing-start (laws.constants_how _ _) c.requires.0

pub overflow_add-at : goal.overflow_add-at
overflow_add-at c = omega (arith, (laws.constant_front _ _ _ (turns.writing_first c.loop-k.invariant (omega arith))).0)

pub slice_bounds-put_constant-count : goal.slice_bounds-put_constant-count
slice_bounds-put_constant-count c = c.loop-k.invariant.within

pub slice_bounds-put_constant-start : goal.slice_bounds-put_constant-start
slice_bounds-put_constant-start c = c.loop-k.invariant.within

pub put_constant-w-requires : goal.put_constant-w-requires
put_constant-w-requires c = (turns.writing_first c.loop-k.invariant (omega arith), omega arith)

pub overflow_add-w : goal.overflow_add-w
unfolding cell
overflow_add-w c =
    let v = turns.Writing-next c.loop-k.invariant (omega arith) c.put_constant-w.new.out c.put_constant-w.ensures in
    omega (arith, v.within, v.kept)

pub loop-k-preserved : goal.loop-k-preserved
unfolding cell
loop-k-preserved c = turns.Writing-next c.loop-k.invariant (omega arith) c.put_constant-w.new.out c.put_constant-w.ensures

pub shape_of-out : goal.shape_of-out
shape_of-out c = c.loop-k.invariant.kept

pub returns : goal.returns
returns c = turns.writing_done c.loop-k.invariant (omega arith)
