-- `listed::fill` meets its contract: a buffer was filled, and is shown.
-- Assumes nothing.
use Rattle.number.proofs.Tools.{arith}
use Rattle.listed.proofs.RestLaws.{Filled-shown}
use Rattle.listed.proofs.fill.Goals as goal

pub fill-filled-requires : goal.fill-filled-requires
fill-filled-requires c =
    let g = c.requires.1 in
    (record { inside = g.inside; text = g.lines; left = g.left }, omega arith)

pub tab-requires : goal.tab-requires
tab-requires c = c.fill-filled.ensures.inside

pub returns : goal.returns
returns c =
    let a = c.args in
    Filled-shown a.in_batch a.file.now a.l a.c _ a.out.now _ c.fill-filled.result c.rest_of.result _ c.requires.1 c.fill-filled.ensures c.tab.ensures c.rest_of.ensures
