-- `link::normalise` meets its contract.
-- Assumes nothing.
use Rattle.number.proofs.Tools.{sym, ◌∙◌, arith}
use Rattle.link.proofs.Faces as faces
use Rattle.link.proofs.normalise.Goals as goal

pub normalise_accepted-requires : goal.normalise_accepted-requires
normalise_accepted-requires c = faces.accepted _ (sym c.check.ensures.value ∙ c.in-Ok.is)

pub returns-in-Ok : goal.returns-in-Ok
returns-in-Ok c = let e = c.normalise_accepted.ensures in (e.0, e.1, record { small = λ i. omega (arith, c.type_inv.file i) })

pub returns-in-Err : goal.returns-in-Err
returns-in-Err c =
    let r = faces.normal_refused _ (sym c.check.ensures.value ∙ c.in-Err.is) c.args.out.now in
    (r.0, r.1, record { small = λ i. omega (arith, c.type_inv.file i) })
