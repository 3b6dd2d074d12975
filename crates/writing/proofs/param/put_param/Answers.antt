-- `writing::param::put_param` meets its contract.
-- Assumes nothing.
use Rattle.number.proofs.Tools.{arith}
use Rattle.meaning.proofs.Normal.Lengths.{length_type}
use Rattle.writing.specs.Source.{renumber}
use Rattle.writing.proofs.Turns as turns
use Rattle.writing.proofs.Sources.{Room-lent}
use Rattle.writing.proofs.Types as laws
use Rattle.writing.proofs.param.put_param.Goals as goal

pub copy-n-requires : goal.copy-n-requires
copy-n-requires c =
    let r = laws.param_Room _ _ _ _ c.requires.0 in
    (r.0, r.1.0)

pub overflow_add-at : goal.overflow_add-at
overflow_add-at c = omega (arith, (laws.param_Room _ _ _ _ c.requires.0).0)

pub slice_bounds-put_type-count : goal.slice_bounds-put_type-count
slice_bounds-put_type-count c = omega (arith, (laws.param_Room _ _ _ _ c.requires.0).1.0)

pub slice_bounds-put_type-start : goal.slice_bounds-put_type-start
slice_bounds-put_type-start c = omega (arith, (laws.param_Room _ _ _ _ c.requires.0).1.0)

pub put_type-requires : goal.put_type-requires
put_type-requires c =
    let r = laws.param_Room _ _ _ _ c.requires.0 in
    (Room-lent c.copy-n.new.out c.copy-n.result (omega arith) r.1.1, (omega arith, omega arith))

pub overflow_add-result : goal.overflow_add-result
overflow_add-result c = omega (arith, turns.Wrote-most c.put_type.ensures (length_type (renumber c.args.place.now c.args.shift)) (laws.param_Room _ _ _ _ c.requires.0).1.1)

pub returns : goal.returns
returns c = laws.param_Wrote _ _ _ _ c.args.out.now c.copy-n.new.out c.copy-n.result c.put_type.result c.put_type.new.out c.copy-n.ensures c.put_type.ensures
