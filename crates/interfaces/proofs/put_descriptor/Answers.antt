-- `interfaces::put_descriptor` meets its contract.
-- Assumes nothing.
use Rattle.std.specs.Prelude.{◌+◌}
use Rattle.number.proofs.Tools.{arith, refl}
use Rattle.writing.proofs.Lent.{back}
use Rattle.writing.proofs.Turns as turns
use Rattle.writing.proofs.Sources.{Room-Stands, Known-Stands, Room-lent}
use Rattle.interfaces.proofs.Descriptors as laws
use Rattle.interfaces.proofs.put_descriptor.Goals as goal

pub parent_index-requires : goal.parent_index-requires
parent_index-requires c = Known-Stands (Room-Stands c.requires.0)

pub parent_number-up-requires : goal.parent_number-up-requires
parent_number-up-requires c = (laws.parent_Known _ _ _ _ c.parent_index.ensures c.requires.0, omega arith)

pub put_u16-requires : goal.put_u16-requires
put_u16-requires c = omega (arith, laws.descriptor_front c.requires.0)

pub overflow_add-at : goal.overflow_add-at
overflow_add-at c = omega (arith, laws.front_in (Known-Stands (Room-Stands c.requires.0)))

pub u16_at-n-requires : goal.u16_at-n-requires
u16_at-n-requires c = omega (arith, laws.front_in (Known-Stands (Room-Stands c.requires.0)))

pub put_u16-requires-2 : goal.put_u16-requires-2
put_u16-requires-2 c = omega (arith, laws.descriptor_front c.requires.0)

pub overflow_add-at-2 : goal.overflow_add-at-2
overflow_add-at-2 c = omega (arith, laws.front_in (Known-Stands (Room-Stands c.requires.0)))

pub slice_bounds-put_methods-count : goal.slice_bounds-put_methods-count
slice_bounds-put_methods-count c = omega (arith, laws.descriptor_front c.requires.0)

pub slice_bounds-put_methods-start : goal.slice_bounds-put_methods-start
slice_bounds-put_methods-start c = omega (arith, laws.descriptor_front c.requires.0)

pub put_methods-w-requires : goal.put_methods-w-requires
put_methods-w-requires c =
    let r = laws.methods_Room _ _ _ _ _ c.u16_at-n.ensures _ c.requires.0 in
    (Room-lent c.put_u16-2.new.out 4 (omega arith) r.1, (r.2, (omega arith, omega arith)))

pub overflow_add-w : goal.overflow_add-w
overflow_add-w c =
    let r = laws.tail_Room _ _ _ _ _ c.u16_at-n.ensures _ c.requires.0 _ _ _ _ _ c.put_methods-w.ensures in
    omega (arith, r.0)

pub overflow_add-at-3 : goal.overflow_add-at-3
overflow_add-at-3 c =
    let r = laws.tail_Room _ _ _ _ _ c.u16_at-n.ensures _ c.requires.0 _ _ _ _ _ c.put_methods-w.ensures in
    omega (arith, laws.tail_front r.1)

pub overflow_add-u : goal.overflow_add-u
overflow_add-u c =
    let r = laws.tail_Room _ _ _ _ _ c.u16_at-n.ensures _ c.requires.0 _ _ _ _ _ c.put_methods-w.ensures in
    omega (arith, r.1.shown.fact)

pub slice_bounds-put_tail-count : goal.slice_bounds-put_tail-count
slice_bounds-put_tail-count c =
    let r = laws.tail_Room _ _ _ _ _ c.u16_at-n.ensures _ c.requires.0 _ _ _ _ _ c.put_methods-w.ensures in
    omega (arith, r.0)

pub slice_bounds-put_tail-start : goal.slice_bounds-put_tail-start
slice_bounds-put_tail-start c =
    let r = laws.tail_Room _ _ _ _ _ c.u16_at-n.ensures _ c.requires.0 _ _ _ _ _ c.put_methods-w.ensures in
    omega (arith, r.0)

pub put_tail-requires : goal.put_tail-requires
put_tail-requires c =
    let known = c.requires in
    let r = laws.tail_Room _ _ _ _ _ c.u16_at-n.ensures _ known.0 _ _ _ _ _ c.put_methods-w.ensures in
    (Room-lent (back c.put_u16-2.new.out 4 c.put_methods-w.new.out) (4 + c.put_methods-w.result) (omega arith) r.1, known.1.0)

pub overflow_add-result : goal.overflow_add-result
overflow_add-result c =
    let r = laws.tail_Room _ _ _ _ _ c.u16_at-n.ensures _ c.requires.0 _ _ _ _ _ c.put_methods-w.ensures in
    omega (arith, turns.Wrote-most c.put_tail.ensures (laws.length_tail _ _) r.1)

pub returns : goal.returns
returns c =
    let a = c.args in
    laws.descriptor_Wrote _ _ _ _ _ c.u16_at-n.ensures a.place.now _ _ _ _ _ a.out.now c.put_u16.new.out c.put_u16-2.new.out c.put_methods-w.new.out _ c.put_tail.new.out c.parent_index.ensures c.parent_number-up.ensures c.put_u16.ensures c.put_u16-2.ensures c.put_methods-w.ensures refl c.put_tail.ensures
