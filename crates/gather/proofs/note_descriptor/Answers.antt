-- `gather::note_descriptor` meets its contract.
-- Assumes nothing.
use Rattle.number.proofs.Tools.{arith, refl}
use Rattle.writing.proofs.Sources.{Room-Stands, Known-Stands}
use Rattle.interfaces.proofs.Descriptors.{front_in}
use Rattle.gather.proofs.Descriptors as laws
use Rattle.gather.proofs.note_descriptor.Goals as goal

pub overflow_add-at : goal.overflow_add-at
overflow_add-at c = omega (arith, front_in (Known-Stands (Room-Stands c.requires.0)))

pub u16_at-n-requires : goal.u16_at-n-requires
u16_at-n-requires c = omega (arith, front_in (Known-Stands (Room-Stands c.requires.0)))

pub overflow_add-at-2 : goal.overflow_add-at-2
overflow_add-at-2 c = omega (arith, front_in (Known-Stands (Room-Stands c.requires.0)))

pub note_methods-p-requires : goal.note_methods-p-requires
note_methods-p-requires c =
    let p = c.requires in
    let n = c.u16_at-n.ensures in
    (laws.methods_stand n (Room-Stands p.0), (omega arith, (omega arith, (omega (arith, laws.methods_few n p.0), omega arith))))

pub u16_at-m-requires : goal.u16_at-m-requires
u16_at-m-requires c = laws.constants_in c.u16_at-n.ensures c.note_methods-p.ensures (Room-Stands c.requires.0)

pub overflow_add-p : goal.overflow_add-p
overflow_add-p c = omega (arith, laws.constants_in c.u16_at-n.ensures c.note_methods-p.ensures (Room-Stands c.requires.0))

pub note_constants-e-requires : goal.note_constants-e-requires
note_constants-e-requires c =
    let p = c.requires in
    let n = c.u16_at-n.ensures in
    let a = c.note_methods-p.ensures in
    let m = c.u16_at-m.ensures in
    (laws.constants_stand n a m (Room-Stands p.0), (omega arith, (omega arith, (omega (arith, laws.names_few n a m p.0), omega (arith, a.long)))))

pub overflow_add-result-3 : goal.overflow_add-result-3
overflow_add-result-3 c =
    let p = c.requires in
    omega (arith, laws.end_in c.u16_at-n.ensures c.note_methods-p.ensures c.u16_at-m.ensures c.note_constants-e.ensures (Room-Stands p.0))

pub overflow_sub-result : goal.overflow_sub-result
overflow_sub-result c =
    let p = c.requires in
    omega (arith, laws.end_in c.u16_at-n.ensures c.note_methods-p.ensures c.u16_at-m.ensures c.note_constants-e.ensures (Room-Stands p.0))

pub returns : goal.returns
returns c = laws.descriptor_noted c.u16_at-n.ensures c.note_methods-p.ensures c.u16_at-m.ensures c.note_constants-e.ensures _ refl refl
