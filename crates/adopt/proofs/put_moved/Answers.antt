-- `adopt::put_moved` meets its contract: header, annotations, zero bytes and the rest, one after another.
-- Assumes nothing.
use Rattle.number.proofs.Tools.{arith}
use Rattle.adopt.proofs.Stored.{moved_stored}
use Rattle.adopt.proofs.put_moved.Goals as goal

pub returns : goal.returns
returns c =
    let a = c.args in
    moved_stored a.file.now a.z a.directory (omega arith) a.cut (omega arith) (omega arith) a.out.now _ _ _ _
    c.put_head.ensures c.put_bytes.ensures.1 c.put_zeros.ensures c.put_bytes-2.ensures.1
