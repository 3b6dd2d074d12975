-- `interfaces::put_tail` meets its contract.
-- Assumes nothing.
use lib.ListN.{length-take, length-drop}
use Rattle.number.proofs.Tools.{arith, refl}
use Rattle.writing.proofs.Sources.{Room-lent}
use Rattle.interfaces.proofs.Descriptors as laws
use Rattle.interfaces.proofs.put_tail.Goals as goal

pub put_u16-requires : goal.put_u16-requires
put_u16-requires c = (laws.constants_Room _ _ _ _ c.u16_at-n.ensures _ c.requires.0).0

pub slice_bounds-put_constants-count : goal.slice_bounds-put_constants-count
slice_bounds-put_constants-count c = omega (arith, (laws.constants_Room _ _ _ _ c.u16_at-n.ensures _ c.requires.0).0)

pub slice_bounds-put_constants-start : goal.slice_bounds-put_constants-start
slice_bounds-put_constants-start c = omega (arith, (laws.constants_Room _ _ _ _ c.u16_at-n.ensures _ c.requires.0).0)

pub put_constants-w-requires : goal.put_constants-w-requires
put_constants-w-requires c =
    let r = laws.constants_Room _ _ _ _ c.u16_at-n.ensures _ c.requires.0 in
    (Room-lent c.put_u16.new.out 2 (omega arith) r.1, (r.2, omega arith))

pub overflow_add-w : goal.overflow_add-w
overflow_add-w c = omega (arith, laws.flags_room _ _ _ _ c.u16_at-n.ensures _ c.requires.0 _ _ _ _ c.put_constants-w.ensures)

pub overflow_add-at-2 : goal.overflow_add-at-2
overflow_add-at-2 c = omega (arith, laws.flags_room _ _ _ _ c.u16_at-n.ensures _ c.requires.0 _ _ _ _ c.put_constants-w.ensures)

pub slice_bounds-copy-count : goal.slice_bounds-copy-count
slice_bounds-copy-count c = omega (arith, laws.flags_room _ _ _ _ c.u16_at-n.ensures _ c.requires.0 _ _ _ _ c.put_constants-w.ensures)

pub slice_bounds-copy-start : goal.slice_bounds-copy-start
slice_bounds-copy-start c = omega (arith, laws.flags_room _ _ _ _ c.u16_at-n.ensures _ c.requires.0 _ _ _ _ c.put_constants-w.ensures)

pub copy-requires : goal.copy-requires
copy-requires c =
    let r = laws.flags_room _ _ _ _ c.u16_at-n.ensures _ c.requires.0 _ _ _ _ c.put_constants-w.ensures in
    (r.0, simp (length-take, length-drop) (omega arith))

pub overflow_add-result : goal.overflow_add-result
overflow_add-result c = omega (arith, laws.flags_room _ _ _ _ c.u16_at-n.ensures _ c.requires.0 _ _ _ _ c.put_constants-w.ensures)

pub returns : goal.returns
returns c = laws.tail_Wrote _ _ _ _ c.u16_at-n.ensures _ _ _ c.args.out.now c.put_u16.new.out c.put_constants-w.new.out _ c.copy.new.out c.put_u16.ensures c.put_constants-w.ensures refl c.copy.ensures
