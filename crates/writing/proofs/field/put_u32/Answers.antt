-- `writing::field::put_u32` meets its contract.
-- Assumes nothing.
use Rattle.number.proofs.Tools.{arith, refl}
use Rattle.writing.proofs.Numbers as laws
use Rattle.writing.proofs.field.put_u32.Goals as goal

pub returns : goal.returns
returns c =
    let a = c.args in
    laws.halves_stored 2 65536 a.v a.out.now _ _ a.at refl (omega arith) (omega arith) c.put_u16.ensures c.put_u16-2.ensures
