-- `remarks::refused_by` meets its contract: the key lies within its room.
-- Assumes nothing.
use lib.Seq.{length-take-le}
use Rattle.number.proofs.Tools.{sym, arith}
use Rattle.remarks.proofs.refused_by.Goals as goal

pub slice_bounds-refused-end : goal.slice_bounds-refused-end
slice_bounds-refused-end c = sym (length-take-le c.key_of-n.result c.key_of-n.new.out (omega (arith, c.key_of-n.ensures.fits)))

pub refused-end-requires : goal.refused-end-requires
refused-end-requires c = (c.requires, rw (length-take-le c.key_of-n.result c.key_of-n.new.out (omega (arith, c.key_of-n.ensures.fits))) c.key_of-n.ensures.fits)
