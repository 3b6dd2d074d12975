-- `adopt::put_head` meets its contract: one field after another.
-- Assumes nothing.
use Rattle.number.proofs.Tools.{arith}
use Rattle.adopt.proofs.Stored.{head_stored}
use Rattle.adopt.proofs.put_head.Goals as goal

pub returns : goal.returns
returns c =
    let a = c.args in
    head_stored a.file.now a.z a.directory (omega arith) a.out.now _ _ _ _
    c.put_bytes.ensures.1 c.put_u32.ensures c.put_u32-2.ensures (rw (← c.u32_at-pool.ensures) c.put_u32-3.ensures)
