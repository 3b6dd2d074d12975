-- `listing::list` meets its contract. The loop's invariant: what was printed, and what is left at the cursor, are the whole. The measure bounds the pieces left.
-- Assumes nothing.
use lib.Seq.{length-take-le}
use Rattle.number.proofs.Tools.{sym, ◌∙◌, arith}
use Rattle.lines.proofs.FillLaws.{falls}
use Rattle.lines.proofs.PrintLaws.{Printing-next}
use Rattle.listing.proofs.list.Goals as goal

pub loop-l-init : goal.loop-l-init
loop-l-init c = c.requires

pub fill-filled-requires : goal.fill-filled-requires
fill-filled-requires c =
    let i = c.loop-l.invariant in
    (i.0.1.begun, omega arith)

pub slice_bounds-write_all-end : goal.slice_bounds-write_all-end
slice_bounds-write_all-end c = sym (length-take-le c.fill-filled.result.length _ c.fill-filled.ensures.inside)

pub loop-l-smaller : goal.loop-l-smaller
loop-l-smaller c = falls c.args.l.count c.loop-l.c _ c.fill-filled.ensures.onward (sym c.is_done.ensures ∙ c.if-is_done.false)

pub loop-l-preserved : goal.loop-l-preserved
loop-l-preserved c =
    let a = c.args in
    ((_, Printing-next a.file.now _ a.l c.loop-l.c c.loop-l.invariant.0.0 c.loop-l.out c.fill-filled.result _ c.loop-l.invariant.0.1 c.fill-filled.ensures), c.loop-l.invariant.1 ∙ sym c.fill-filled.auto.out)
