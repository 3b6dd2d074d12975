-- `asking::put` meets its contract: the bytes lie within the text.
-- Assumes nothing.
use lib.Seq.{length-take-le}
use Rattle.number.proofs.Tools.{sym, arith}
use Rattle.asking.proofs.put.Goals as goal

pub slice_bounds-write-end : goal.slice_bounds-write-end
slice_bounds-write-end c = sym (length-take-le c.args.n c.args.text.now (omega arith))
