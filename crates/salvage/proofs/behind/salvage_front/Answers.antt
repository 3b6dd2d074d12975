-- `salvage::behind::salvage_front` meets its contract.
-- Assumes nothing.
use Rattle.typelib.proofs.FrontLaws.{fronted_header}
use Rattle.typelib.specs.Typelib.{pool_of}
use Rattle.number.proofs.Parts.{part_rest}
use lib.Seq.{length-take-le}
use Rattle.number.proofs.Tools.{arith, sym}
use Rattle.salvage.proofs.behind.salvage_front.Goals as goal

pub slice_bounds-salvage_behind-count : goal.slice_bounds-salvage_behind-count
slice_bounds-salvage_behind-count c = omega (arith, (fronted_header _ _ c.requires.0).inside)

pub slice_bounds-salvage_behind-start : goal.slice_bounds-salvage_behind-start
slice_bounds-salvage_behind-start c = omega (arith, (fronted_header _ _ c.requires.0).inside)

pub slice_bounds-salvage_behind-end-2 : goal.slice_bounds-salvage_behind-end-2
slice_bounds-salvage_behind-end-2 c = let a = c.requires in omega (arith, (fronted_header _ _ a.0).short, a.1)

pub slice_bounds-salvage_behind-end-3 : goal.slice_bounds-salvage_behind-end-3
slice_bounds-salvage_behind-end-3 c = sym (length-take-le _ c.args.work.now (omega (arith, (fronted_header _ _ c.requires.0).short, c.requires.1)))

pub salvage_behind-requires : goal.salvage_behind-requires
unfolding pool_of
salvage_behind-requires c = (c.requires.0, part_rest c.args.file.now c.args.h.pool, length-take-le _ c.args.work.now (omega (arith, (fronted_header _ _ c.requires.0).short, c.requires.1)))
