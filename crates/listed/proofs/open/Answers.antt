-- `listed::open` meets its contract: refused, or the first line of an accepted file.
-- Assumes nothing.
use Rattle.number.proofs.Tools.{sym, ◌∙◌, arith}
use Rattle.text.specs.Line.{line_of}
use Rattle.reader.specs.Reader.Laws.{accepted_decodes}
use Rattle.listed.proofs.OpenLaws.{Opens-refused, Opens-accepted}
use Rattle.listed.proofs.open.Goals as goal

pub layout_of-requires : goal.layout_of-requires
layout_of-requires c =
    let r = accepted_decodes c.args.file.now (sym c.check.ensures.value ∙ c.in-Ok.is) in
    (r.0, r.1, r.2)

pub returns-in-Err : goal.returns-in-Err
returns-in-Err c =
    let a = c.args in
    Opens-refused a.in_batch a.file.now a.text.now c.refused.result c.in-Err.why c.no_rest.result _ (sym c.check.ensures.value ∙ c.in-Err.is) c.refused.ensures c.no_rest.ensures

pub returns-in-Ok : goal.returns-in-Ok
unfolding line_of
returns-in-Ok c =
    let a = c.args in
    let e = sym c.check.ensures.value ∙ c.in-Ok.is in
    let r = accepted_decodes a.file.now e in
    Opens-accepted a.in_batch a.file.now a.text.now c.numbered-said.result r.0 r.1 c.in-Ok.n c.layout_of.result _ c.rest_of-rest.result _ (omega arith) e r.2 r.3 (c.layout_of.ensures r.0 r.1 r.2) c.numbered-said.ensures c.tab.ensures c.rest_of-rest.ensures
