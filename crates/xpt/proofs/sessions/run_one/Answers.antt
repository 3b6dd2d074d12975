-- `xpt::sessions::run_one` meets its contract: the words lie within the input, and nothing is kept yet.
-- Assumes nothing.
use lib.Seq.{length-take-le}
use Rattle.number.proofs.Tools.{sym, arith}
use Rattle.kept.proofs.RowLaws.{Tidy-nothing}
use Rattle.xpt.proofs.sessions.run_one.Goals as goal

pub slice_bounds-run-end : goal.slice_bounds-run-end
slice_bounds-run-end c = sym (length-take-le c.args.n c.args.input.now (omega arith))

pub run-ran-requires : goal.run-ran-requires
run-ran-requires c = (rw (length-take-le c.args.n c.args.input.now (omega arith)) (omega arith), Tidy-nothing _ c.requires.1.0)
