-- `listed::go_on` meets its contract: over, the closing newline, or lines.
-- Assumes nothing.
use Rattle.number.proofs.Tools.{arith}
use Rattle.listed.proofs.OpenLaws.{at_leaves, at_gives, over_gives, closing_gives}
use Rattle.listed.proofs.go_on.Goals as goal

pub fill-requires : goal.fill-requires
fill-requires c =
    let p = c.requires in
    let a = c.args in
    (p.0, at_leaves a.in_batch a.file.now a.rest c.in-At.c p.0 c.in-At.is p.1)

pub returns-in-Over : goal.returns-in-Over
returns-in-Over c =
    let a = c.args in
    over_gives a.in_batch a.file.now a.out.now a.rest c.no_rest.result c.in-Over.is c.no_rest.ensures

pub returns-in-Closing : goal.returns-in-Closing
returns-in-Closing c =
    let a = c.args in
    closing_gives a.in_batch a.file.now a.out.now a.rest c.no_rest-in-Closing.result _ _ (omega arith) c.in-Closing.is c.no_rest-in-Closing.ensures c.put_bytes.ensures

pub returns-in-At : goal.returns-in-At
returns-in-At c =
    let a = c.args in
    at_gives a.in_batch a.file.now a.out.now a.rest c.in-At.c c.fill.result _ c.in-At.is c.fill.ensures
