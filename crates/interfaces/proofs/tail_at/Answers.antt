-- `interfaces::tail_at` meets its contract.
-- Assumes nothing.
use Rattle.number.proofs.Tools.{arith}
use Rattle.interfaces.proofs.Descriptors as laws
use Rattle.interfaces.proofs.tail_at.Goals as goal

pub overflow_add-at : goal.overflow_add-at
overflow_add-at c = omega (arith, laws.front_in c.requires.0)

pub methods_end-requires : goal.methods_end-requires
methods_end-requires c = (laws.methods_stand c.method_count.ensures c.requires.0, omega arith)

pub returns : goal.returns
returns c = laws.tail_at_lem c.method_count.ensures c.methods_end.ensures
