-- `told::answer::put` meets its contract: the bytes lie within the buffer.
-- Assumes nothing.
use lib.Seq.{length-take-le}
use Rattle.number.proofs.Tools.{sym, arith}
use Rattle.streams.proofs.PrintLaws.{Prints-line}
use Rattle.told.proofs.answer.put.Goals as goal

pub slice_bounds-write-end : goal.slice_bounds-write-end
slice_bounds-write-end c = sym (length-take-le c.args.n c.args.head.now (omega arith))

pub returns : goal.returns
returns c =
    let a = c.args in
    λ line f. Prints-line line a.head.now a.n c.write.result f (omega arith) c.write.ensures
