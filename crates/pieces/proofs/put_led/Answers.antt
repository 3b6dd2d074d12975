-- `pieces::put_led` meets its contract.
-- Assumes nothing.
use Rattle.number.proofs.Tools.{arith}
use Rattle.names.proofs.Words.{word_here, word_there}
use Rattle.pieces.proofs.put_led.Goals as goal

pub put_name-requires : goal.put_name-requires
put_name-requires c =
    let a = c.args in
    (c.requires.0.here (omega arith), (c.requires.0.small, rw (word_here a.pool.now a.other.now a.w (omega arith)) c.requires.1))

pub returns-then-w-le-FILE_LIMIT : goal.returns-then-w-le-FILE_LIMIT
returns-then-w-le-FILE_LIMIT c =
    let a = c.args in
    rw (← word_here a.pool.now a.other.now a.w (omega arith)) c.put_name.ensures

pub put_name-requires-2 : goal.put_name-requires-2
put_name-requires-2 c =
    let a = c.args in
    (c.requires.0.there (omega arith), (c.requires.0.other_small, rw (word_there a.pool.now a.other.now a.w (omega arith)) c.requires.1))

pub returns : goal.returns
returns c =
    let a = c.args in
    rw (← word_there a.pool.now a.other.now a.w (omega arith)) c.put_name-2.ensures
