-- `writing::constant::put_constant` meets its contract.
-- Assumes nothing.
use lib.ListN.{length-take, length-drop}
use Rattle.number.proofs.Tools.{arith}
use Rattle.writing.proofs.Sources.{Room-Stands}
use Rattle.writing.proofs.Methods as laws
use Rattle.writing.proofs.constant.put_constant.Goals as goal

pub put_u32-requires : goal.put_u32-requires
put_u32-requires c = omega (arith, laws.constant_front _ _ _ c.requires.0)

pub overflow_add-at : goal.overflow_add-at
overflow_add-at c = omega (arith, laws.constant_front _ _ _ c.requires.0)

pub value_size-requires : goal.value_size-requires
value_size-requires c = Room-Stands c.requires.0

pub overflow_add-value_size : goal.overflow_add-value_size
overflow_add-value_size c = omega (arith, laws.constant_Room _ _ _ c.value_size.ensures _ c.requires.0)

pub slice_bounds-copy-count : goal.slice_bounds-copy-count
slice_bounds-copy-count c = omega (arith, laws.constant_front _ _ _ c.requires.0)

pub slice_bounds-copy-start : goal.slice_bounds-copy-start
slice_bounds-copy-start c = omega (arith, laws.constant_front _ _ _ c.requires.0)

pub copy-requires : goal.copy-requires
copy-requires c =
    let r = laws.constant_Room _ _ _ c.value_size.ensures _ c.requires.0 in
    (r.0, simp (length-take, length-drop) (omega arith))

pub overflow_add-result : goal.overflow_add-result
overflow_add-result c = omega (arith, laws.constant_Room _ _ _ c.value_size.ensures _ c.requires.0)

pub returns : goal.returns
returns c =
    let a = c.args in
    laws.constant_Wrote _ _ _ c.value_size.ensures (record { small = λ i. omega (arith, c.type_inv.pool i) }) a.q _ a.out.now c.put_u32.new.out c.copy.new.out c.put_u32.ensures c.copy.ensures
