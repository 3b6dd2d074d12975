-- `interfaces::descriptor_size` meets its contract.
-- Assumes nothing.
use Rattle.number.proofs.Tools.{arith}
use Rattle.interfaces.proofs.Descriptors as laws
use Rattle.interfaces.proofs.descriptor_size.Goals as goal

pub u16_at-n-requires : goal.u16_at-n-requires
u16_at-n-requires c = laws.tail_in c.tail_at-p.ensures c.requires.0

pub overflow_add-p : goal.overflow_add-p
overflow_add-p c = omega (arith, laws.tail_in c.tail_at-p.ensures c.requires.0)

pub constants_end-requires : goal.constants_end-requires
constants_end-requires c = (laws.constants_stand c.tail_at-p.ensures c.u16_at-n.ensures c.requires.0, omega arith)

pub overflow_add-result : goal.overflow_add-result
overflow_add-result c = omega (arith, laws.descriptor_within (laws.descriptor_Ends c.tail_at-p.ensures c.u16_at-n.ensures c.constants_end.ensures) c.requires.0)

pub overflow_sub-result : goal.overflow_sub-result
overflow_sub-result c = omega (arith, laws.descriptor_within (laws.descriptor_Ends c.tail_at-p.ensures c.u16_at-n.ensures c.constants_end.ensures) c.requires.0)

pub returns : goal.returns
returns c = laws.size_Tells (laws.descriptor_Ends c.tail_at-p.ensures c.u16_at-n.ensures c.constants_end.ensures)
