use Rattle.std.proofs.Common.{arith}
use Rattle.store.proofs.LoadLaws.{read_fails, read_Loads}
use Rattle.store.proofs.read_in.Goals as goal

pub add-requires : goal.add-requires
add-requires c =
    let w = c.put_bytes-from in
    let p = c.in-Ok.ensures.ends in
    (c.requires.0, (omega arith, (omega (arith, w.ensures.0), (p.0, omega (arith, w.ensures.0, c.requires.1)))))

pub returns-in-Err : goal.returns-in-Err
returns-in-Err c =
    let w = c.put_bytes-from in
    read_fails _ _ _ _ _ _ _ c.requires.0 (omega (arith, c.told-store)) w.ensures.0 w.ensures.1 c.in-Err.ensures.before _

pub returns-in-Ok : goal.returns-in-Ok
returns-in-Ok c =
    let w = c.put_bytes-from in
    let q = c.requires.1 in
    let p = c.in-Ok.ensures.ends in
    let d = c.add.ensures in
    read_Loads _ _ _ _ _ _ _ c.requires.0 (omega (arith, c.told-store)) w.ensures.0 w.ensures.1 c.in-Ok.ensures.before _ _ (omega arith) q.1.0 c.state_of.ensures q.1.1 p.0 p.1 c.in-Ok.ensures.bytes _ _ d.0 d.1.0 d.1.1
