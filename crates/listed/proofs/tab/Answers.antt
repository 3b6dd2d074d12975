-- `listed::tab` meets its contract: in a batch, or not.
-- Assumes nothing.
use lib.Seq.{length-take-le}
use Rattle.number.proofs.Tools.{sym, arith}
use Rattle.listed.proofs.RestLaws.{shown_tabs, shown_plain}
use Rattle.listed.proofs.tab.Goals as goal

pub slice_bounds-tab_newlines-end-then-in_batch : goal.slice_bounds-tab_newlines-end-then-in_batch
slice_bounds-tab_newlines-end-then-in_batch c = sym (length-take-le c.args.n c.args.buffer.now (omega arith))

pub returns-then-in_batch : goal.returns-then-in_batch
returns-then-in_batch c = shown_tabs _ c.args.buffer.now c.tab_newlines.new.text c.args.n c.if-in_batch.true c.tab_newlines.ensures

pub returns-else-in_batch : goal.returns-else-in_batch
returns-else-in_batch c = shown_plain _ c.args.buffer.now c.args.n c.if-in_batch.false
