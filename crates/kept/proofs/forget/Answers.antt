use Rattle.std.proofs.Common.{arith}
use Rattle.kept.proofs.WrittenLaws.{forget_Tidy, forget_done}
use Rattle.kept.proofs.ForgetLaws.{forgot}
use Rattle.kept.proofs.forget.Goals as goal

pub may_lead-requires : goal.may_lead-requires
may_lead-requires c = (forget_Tidy _ _ _ _ _ _ c.loop-k.invariant c.requires, omega arith)

pub returns-clause-tidy : goal.returns-clause-tidy
returns-clause-tidy c =
    let l = c.loop-k in
    let e = forget_done _ _ _ _ _ c.args.kept.rows l.invariant (omega arith) in
    (forget_Tidy _ _ _ _ _ _ l.invariant c.requires, e)

pub returns-clause-forgot : goal.returns-clause-forgot
returns-clause-forgot c = forgot _ _ _ _ _ (omega (arith, c.told-rows)) (forget_done _ _ _ _ _ c.args.kept.rows c.loop-k.invariant (omega arith))
