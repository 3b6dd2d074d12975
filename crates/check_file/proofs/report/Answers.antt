-- `check_file::report` meets its contract: a line lies within its 64 bytes.
-- Assumes nothing.
use lib.Seq.{length-take-le}
use Rattle.number.proofs.Tools.{sym, arith}
use Rattle.check_file.proofs.report.Goals as goal

pub slice_bounds-write_all-end : goal.slice_bounds-write_all-end
slice_bounds-write_all-end c = sym (length-take-le c.answer-n.result c.answer-n.new.line (omega arith))
