-- `asking::put_help_of` meets its contract: the word lies within the line.
-- Assumes nothing.
use lib.Seq.{length-take-le}
use Rattle.number.proofs.Tools.{sym, arith}
use Rattle.asking.proofs.put_help_of.Goals as goal

pub slice_bounds-is_types-end : goal.slice_bounds-is_types-end
slice_bounds-is_types-end c =
    let a = c.args in
    sym (length-take-le a.k a.input.now (omega arith))

pub slice_bounds-verb_of-end : goal.slice_bounds-verb_of-end
slice_bounds-verb_of-end c =
    let a = c.args in
    sym (length-take-le a.k a.input.now (omega arith))
