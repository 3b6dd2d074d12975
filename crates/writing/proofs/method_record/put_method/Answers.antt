-- `writing::method_record::put_method` meets its contract.
-- Assumes nothing.
use lib.ListN.{length-take, length-drop}
use Rattle.std.specs.Prelude.{◌+◌}
use Rattle.number.proofs.Tools.{arith, refl}
use Rattle.number.specs.Part.{part}
use Rattle.meaning.proofs.Normal.Lengths.{length_param}
use Rattle.writing.specs.Source.{renumber}
use Rattle.writing.proofs.Turns as turns
use Rattle.writing.proofs.Lent.{back, lent}
use Rattle.writing.proofs.Sources.{Room-Stands, Known-Stands, Room-lent}
use Rattle.writing.proofs.Types.{param_Room}
use Rattle.writing.proofs.Methods as laws
use Rattle.writing.proofs.method_record.put_method.Goals as goal

pub copy-w-requires : goal.copy-w-requires
copy-w-requires c =
    let known = c.requires in
    (omega (arith, laws.method_front _ _ _ _ known.0), omega (arith, laws.method_front _ _ _ _ known.0))

pub put_u32-requires : goal.put_u32-requires
put_u32-requires c = omega (arith, laws.method_front _ _ _ _ c.requires.0)

pub overflow_add-at : goal.overflow_add-at
overflow_add-at c = omega (arith, laws.method_front _ _ _ _ c.requires.0)

pub slice_bounds-copy-count : goal.slice_bounds-copy-count
slice_bounds-copy-count c = omega (arith, laws.method_front _ _ _ _ c.requires.0)

pub slice_bounds-copy-start : goal.slice_bounds-copy-start
slice_bounds-copy-start c = omega (arith, laws.method_front _ _ _ _ c.requires.0)

pub copy-w-requires-2 : goal.copy-w-requires-2
copy-w-requires-2 c =
    let known = c.requires in
    (omega (arith, laws.method_front _ _ _ _ known.0), simp (length-take, length-drop) (omega (arith, laws.method_front _ _ _ _ known.0)))

pub argument_count-n-requires : goal.argument_count-n-requires
argument_count-n-requires c = (Known-Stands (Room-Stands c.requires.0), omega arith)

pub overflow_add-at-2 : goal.overflow_add-at-2
overflow_add-at-2 c = omega (arith, laws.method_front _ _ _ _ c.requires.0)

pub slice_bounds-put_params-count : goal.slice_bounds-put_params-count
slice_bounds-put_params-count c = omega (arith, laws.method_front _ _ _ _ c.requires.0)

pub slice_bounds-put_params-start : goal.slice_bounds-put_params-start
slice_bounds-put_params-start c = omega (arith, laws.method_front _ _ _ _ c.requires.0)

pub put_params-w-requires : goal.put_params-w-requires
put_params-w-requires c =
    let known = c.requires in
    (Room-lent (back c.put_u32.new.out 5 c.copy-w-2.new.out) 6 (omega (arith, laws.method_front _ _ _ _ known.0)) (laws.arguments_Room _ _ _ _ known.0 _ c.argument_count-n.ensures), (omega arith, omega arith))

pub overflow_add-w : goal.overflow_add-w
overflow_add-w c =
    let known = c.requires in
    let r = laws.result_Room _ _ _ _ known.0 _ c.argument_count-n.ensures _ _ _ _ c.put_params-w.ensures in
    omega (arith, (param_Room _ _ _ _ r.1).0, known.1.0)

pub overflow_add-at-3 : goal.overflow_add-at-3
overflow_add-at-3 c =
    let r = laws.result_Room _ _ _ _ c.requires.0 _ c.argument_count-n.ensures _ _ _ _ c.put_params-w.ensures in
    omega (arith, param_Room _ _ _ _ r.1)

pub slice_bounds-put_param-count : goal.slice_bounds-put_param-count
slice_bounds-put_param-count c =
    let r = laws.result_Room _ _ _ _ c.requires.0 _ c.argument_count-n.ensures _ _ _ _ c.put_params-w.ensures in
    omega arith

pub slice_bounds-put_param-start : goal.slice_bounds-put_param-start
slice_bounds-put_param-start c =
    let r = laws.result_Room _ _ _ _ c.requires.0 _ c.argument_count-n.ensures _ _ _ _ c.put_params-w.ensures in
    omega arith

pub put_param-requires : goal.put_param-requires
put_param-requires c =
    let known = c.requires in
    let l3 = back c.put_u32.new.out 5 c.copy-w-2.new.out in
    let r = laws.result_Room _ _ _ _ known.0 _ c.argument_count-n.ensures _ _ _ _ c.put_params-w.ensures in
    (Room-lent (back l3 6 c.put_params-w.new.out) (6 + c.put_params-w.result) (omega arith) r.1, (known.1.0, known.1.1))

pub overflow_add-result : goal.overflow_add-result
overflow_add-result c =
    let r = laws.result_Room _ _ _ _ c.requires.0 _ c.argument_count-n.ensures _ _ _ _ c.put_params-w.ensures in
    omega (arith, turns.Wrote-most c.put_param.ensures (length_param (renumber c.args.place.now c.args.shift)) r.1)

pub returns : goal.returns
returns c =
    let a = c.args in
    let l2 = c.put_u32.new.out in
    let y3 = c.copy-w-2.new.out in
    laws.method_Wrote _ _ _ _ _ _ _ _ a.out.now c.copy-w.new.out l2 (back l2 5 y3) c.put_params-w.new.out _ c.put_param.new.out c.argument_count-n.ensures c.copy-w.ensures.1 c.put_u32.ensures (lent l2 y3 (part a.pool.now (a.at + 5) (a.at + 5 + 1)) 5 c.copy-w-2.ensures.1) c.put_params-w.ensures refl c.put_param.ensures
