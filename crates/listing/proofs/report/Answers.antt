-- `listing::report` meets its contract: the first line lies within its 64 bytes, and the rest is left at the cursor.
-- Assumes nothing.
use lib.Seq.{length-take-le}
use Rattle.number.proofs.Tools.{sym, arith}
use Rattle.lines.proofs.PrintLaws.{Printing-first}
use Rattle.listing.proofs.report.Goals as goal

pub slice_bounds-write_all-end : goal.slice_bounds-write_all-end
slice_bounds-write_all-end c = sym (length-take-le c.begin-begun.result.length c.begin-begun.new.line (omega arith))

pub list-requires : goal.list-requires
list-requires c =
    let a = c.args in
    let p = c.requires in
    ((_, Printing-first a.file.now _ a.line.now c.begin-begun.result _ p.1.0 c.begin-begun.ensures), p.1.1)
