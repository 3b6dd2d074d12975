-- `tabled::of_key` meets its contract, by each answer to the key.
-- Assumes nothing.
use Rattle.number.proofs.Tools.{sym, ◌∙◌, arith}
use Rattle.tabled.proofs.OpenLaws.{key_in_lem, Opens-none, Opens-malformed}
use Rattle.tabled.proofs.of_key.Goals as goal

pub of_index-requires : goal.of_index-requires
of_index-requires c =
    let a = c.args in
    let p = c.requires in
    let d = key_in_lem p.entries a.space.now a.name.now c.in-Ok-Some.index (sym (rw c.in-Ok-Some.field-0-is at c.in-Ok-Some.is) ∙ c.by_key.ensures.each p.entries p.laid) in
    (p, d.0, omega (arith, d.1, p.laid.count))

pub returns-in-Ok-Some : goal.returns-in-Ok-Some
returns-in-Ok-Some c es h = rw (← (sym (rw c.in-Ok-Some.field-0-is at c.in-Ok-Some.is) ∙ c.by_key.ensures.each es h)) (c.of_index.ensures es h)

pub returns-in-Ok-None : goal.returns-in-Ok-None
returns-in-Ok-None c es h =
    let a = c.args in
    Opens-none a.in_batch a.file.now a.text.now c.interface.result c.no_rest.result _ es _ (sym (rw c.in-Ok-None.field-0-is at c.in-Ok-None.is) ∙ c.by_key.ensures.each es h) c.interface.ensures c.no_rest.ensures

pub returns-in-Err : goal.returns-in-Err
returns-in-Err c es h =
    let a = c.args in
    Opens-malformed a.in_batch a.file.now a.text.now c.interface-in-Err.result c.no_rest-in-Err.result _ es _ c.in-Err.why (sym c.in-Err.is ∙ c.by_key.ensures.each es h) c.interface-in-Err.ensures c.no_rest-in-Err.ensures
