-- `told::save_output` meets its contract: the bytes lie within the output.
-- Assumes nothing.
use lib.Seq.{length-take-le}
use Rattle.number.proofs.Tools.{sym, arith}
use Rattle.told.proofs.save_output.Goals as goal

pub slice_bounds-save-end-2 : goal.slice_bounds-save-end-2
slice_bounds-save-end-2 c = sym (length-take-le c.args.n c.args.out.now (omega arith))
