-- `writing::param::put_params` meets its contract.
-- Assumes nothing.
use Rattle.number.proofs.Tools.{arith}
use Rattle.writing.proofs.Types as laws
use Rattle.writing.proofs.Turns as turns
use Rattle.writing.proofs.param.put_params.Goals as goal

pub loop-init : goal.loop-init
loop-init c = turns.Writing-start (laws.params_how _ _ _) c.requires.0

pub overflow_add-at : goal.overflow_add-at
overflow_add-at c = omega (arith, (laws.param_Room _ _ _ _ (turns.writing_first c.loop.invariant (omega arith))).0)

pub slice_bounds-put_param-count : goal.slice_bounds-put_param-count
slice_bounds-put_param-count c = c.loop.invariant.within

pub slice_bounds-put_param-start : goal.slice_bounds-put_param-start
slice_bounds-put_param-start c = c.loop.invariant.within

pub put_param-w-requires : goal.put_param-w-requires
put_param-w-requires c = (turns.writing_first c.loop.invariant (omega arith), (omega arith, omega arith))

pub overflow_add-w : goal.overflow_add-w
overflow_add-w c =
    let v = turns.Writing-next c.loop.invariant (omega arith) c.put_param-w.new.out c.put_param-w.ensures in
    omega (arith, v.within, v.kept)

pub loop-preserved : goal.loop-preserved
loop-preserved c = turns.Writing-next c.loop.invariant (omega arith) c.put_param-w.new.out c.put_param-w.ensures

pub shape_of-out : goal.shape_of-out
shape_of-out c = c.loop.invariant.kept

pub returns : goal.returns
returns c = turns.writing_done c.loop.invariant (omega arith)
