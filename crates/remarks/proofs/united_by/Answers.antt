-- `remarks::united_by` meets its contract: the key lies within its room.
-- Assumes nothing.
use lib.Seq.{length-take-le}
use Rattle.number.proofs.Tools.{sym, arith}
use Rattle.remarks.proofs.united_by.Goals as goal

pub slice_bounds-united-end : goal.slice_bounds-united-end
slice_bounds-united-end c = sym (length-take-le c.key_of-n.result c.key_of-n.new.out (omega (arith, c.key_of-n.ensures.fits)))

pub united-end-requires : goal.united-end-requires
united-end-requires c = (c.requires, rw (length-take-le c.key_of-n.result c.key_of-n.new.out (omega (arith, c.key_of-n.ensures.fits))) c.key_of-n.ensures.fits)
