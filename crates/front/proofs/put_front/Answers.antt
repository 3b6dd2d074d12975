-- `front::put_front` meets its contract: one field after another.
-- Assumes nothing.
use lib.ListN.{length-set}
use Rattle.number.proofs.Tools.{arith}
use Rattle.meaning.specs.Normal.Normal.{note_bytes}
use Rattle.front.proofs.Fields as laws
use Rattle.front.proofs.put_front.Goals as goal

pub put_u16-requires : goal.put_u16-requires
put_u16-requires c = simp length-set (omega arith)

pub put_u32-requires : goal.put_u32-requires
put_u32-requires c = omega (arith, length-set c.put_bytes.new.out 17 c.args.minor)

pub put_u32-requires-2 : goal.put_u32-requires-2
put_u32-requires-2 c = omega (arith, length-set c.put_bytes.new.out 17 c.args.minor)

pub put_u32-requires-3 : goal.put_u32-requires-3
put_u32-requires-3 c = omega (arith, length-set c.put_bytes.new.out 17 c.args.minor)

pub put_bytes-requires-2 : goal.put_bytes-requires-2
put_bytes-requires-2 c = omega (arith, length-set c.put_bytes.new.out 17 c.args.minor)

pub shape_of-out : goal.shape_of-out
shape_of-out c = omega (arith, length-set c.put_bytes.new.out 17 c.args.minor)

pub returns : goal.returns
returns c =
    let a = c.args in
    laws.front_stored a.minor a.c a.len c.directory_at.result a.out.now c.put_bytes.new.out c.put_u16.new.out c.put_u32.new.out c.put_u32-2.new.out c.put_u32-3.new.out c.put_bytes-2.new.out c.put_bytes.ensures.1 c.put_u16.ensures c.put_u32.ensures c.directory_at.ensures c.put_u32-2.ensures c.put_u32-3.ensures (unfold note_bytes in c.put_bytes-2.ensures.1)
