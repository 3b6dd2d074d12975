-- `pieces::put_body` meets its contract.
-- Assumes nothing.
use Rattle.number.proofs.Tools.{arith}
use Rattle.pieces.proofs.Bodies as laws
use Rattle.pieces.proofs.put_body.Goals as goal

pub overflow_sub-b : goal.overflow_sub-b
overflow_sub-b c = omega (arith, (c.requires.0.shown.here (omega arith)).pointer)

pub put_descriptor-requires : goal.put_descriptor-requires
put_descriptor-requires c =
    let room = c.requires.0 in
    let l = room.shown.here (omega arith) in
    (laws.Lying-Room l room.room, (l.small, omega arith))

pub returns-then-b-le-FILE_LIMIT : goal.returns-then-b-le-FILE_LIMIT
returns-then-b-le-FILE_LIMIT c = record { each = λ d e k. laws.Lying-Wrote _ _ c.put_descriptor.ensures (k.here (omega arith)) }

pub put_descriptor-requires-2 : goal.put_descriptor-requires-2
put_descriptor-requires-2 c =
    let room = c.requires.0 in
    let l = room.shown.there (omega arith) in
    (laws.Lying-Room l room.room, (l.small, omega arith))

pub returns : goal.returns
returns c = record { each = λ d e k. laws.Lying-Wrote _ _ c.put_descriptor-2.ensures (k.there (omega arith)) }
