-- `tabled::of_file` meets its contract: accepted or refused.
-- Assumes nothing.
use Rattle.number.proofs.Tools.{sym, ◌∙◌}
use Rattle.reader.specs.Values.{entries_in}
use Rattle.reader.specs.Reader.Laws.{accepted_decodes}
use Rattle.tabled.proofs.OpenLaws.{Opens-refused, Opens-accepted}
use Rattle.tabled.proofs.of_file.Goals as goal

pub layout_of-requires : goal.layout_of-requires
layout_of-requires c =
    let a = c.args in
    let r = accepted_decodes a.file.now (sym c.check.ensures.value ∙ c.in-Ok.is) in
    (r.0, r.1, r.2)

pub of_key-requires : goal.of_key-requires
of_key-requires c =
    let a = c.args in
    let r = accepted_decodes a.file.now (sym c.check.ensures.value ∙ c.in-Ok.is) in
    record { entries = entries_in r.0; laid = c.layout_of.ensures r.0 r.1 r.2 }

pub returns-in-Ok : goal.returns-in-Ok
returns-in-Ok c =
    let a = c.args in
    let r = accepted_decodes a.file.now (sym c.check.ensures.value ∙ c.in-Ok.is) in
    Opens-accepted a.in_batch a.file.now a.text.now a.space.now a.name.now r.0 r.1 c.of_key.result _ r.2 (c.of_key.ensures (entries_in r.0) (c.layout_of.ensures r.0 r.1 r.2))

pub returns-in-Err : goal.returns-in-Err
returns-in-Err c =
    let a = c.args in
    Opens-refused a.in_batch a.file.now a.text.now c.interface.result c.no_rest.result _ a.space.now a.name.now c.in-Err.why (sym c.check.ensures.value ∙ c.in-Err.is) c.interface.ensures c.no_rest.ensures
