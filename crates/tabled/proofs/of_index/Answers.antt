-- `tabled::of_index` meets its contract: a complete chain, or not.
-- Assumes nothing.
use Rattle.number.proofs.Tools.{arith}
use Rattle.tabled.proofs.OpenLaws.{Opens-known, Opens-unknown}
use Rattle.tabled.proofs.of_index.Goals as goal

pub returns-in-Known : goal.returns-in-Known
returns-in-Known c es h =
    let a = c.args in
    Opens-known a.in_batch a.file.now a.l es h a.index c.begin-table.result (c.begin-table.ensures.each es h) (c.begin-table.ensures.total es h) c.rest_of-rest.result c.rest_of-rest.ensures a.text.now c.in-Known.field-0 c.in-Known.is

pub returns-in-Undetermined : goal.returns-in-Undetermined
returns-in-Undetermined c es h =
    let a = c.args in
    Opens-unknown a.in_batch a.file.now a.l es h a.index c.begin-table.result (c.begin-table.ensures.each es h) (c.begin-table.ensures.total es h) c.rest_of-rest.result c.rest_of-rest.ensures a.text.now c.in-Undetermined.ancestor c.in-Undetermined.is c.numbered-said.result _ _ (omega (arith, c.tab-arg-1)) c.numbered-said.ensures c.tab.ensures
