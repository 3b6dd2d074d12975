-- `filing::put_entry` meets its contract: one field after another.
-- Assumes nothing.
use Rattle.number.proofs.Tools.{arith}
use Rattle.filing.proofs.Rows as laws
use Rattle.filing.proofs.put_entry.Goals as goal

pub returns : goal.returns
returns c =
    let a = c.args in
    laws.row_stored a.high a.low a.name a.space a.own a.out.now c.put_u64.new.out c.put_u64-2.new.out c.put_u32.new.out c.put_u32-2.new.out c.put_u32-3.new.out (omega arith) c.put_u64.ensures c.put_u64-2.ensures c.put_u32.ensures c.put_u32-2.ensures c.put_u32-3.ensures
