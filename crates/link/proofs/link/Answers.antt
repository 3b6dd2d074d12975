-- `link::link` meets its contract.
-- Assumes nothing.
use Rattle.number.proofs.Tools.{sym, ◌∙◌, arith}
use Rattle.link.proofs.Faces as faces
use Rattle.link.proofs.link.Goals as goal

pub link_second-requires : goal.link_second-requires
link_second-requires c = faces.accepted _ (sym c.check.ensures.value ∙ c.in-Ok.is)

pub returns-in-Ok : goal.returns-in-Ok
returns-in-Ok c =
    let e = c.link_second.ensures in
    (e.0, e.1, record { small = λ i. omega (arith, c.type_inv.first i) }, record { small = λ i. omega (arith, c.type_inv.second i) })

pub returns-in-Err : goal.returns-in-Err
returns-in-Err c =
    let a = c.args in
    let r = faces.first_refused_lem _ (sym c.check.ensures.value ∙ c.in-Err.is) a.second.now a.out.now in
    (r.0, r.1, record { small = λ i. omega (arith, c.type_inv.first i) }, record { small = λ i. omega (arith, c.type_inv.second i) })
