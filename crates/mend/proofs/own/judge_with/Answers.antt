-- `mend::own::judge_with` meets its contract.
-- Assumes nothing.
use Rattle.std.specs.Prelude.{◌≡◌}
use Rattle.mend.proofs.Marks.{Judged-none, Judged-more}
use Rattle.typelib.proofs.OwnLaws.{Lies-first}
use lib.ListN.{length-set}
use Rattle.number.proofs.Tools.{arith, refl}
use Rattle.mend.proofs.own.judge_with.Goals as goal

pub loop-k-init : goal.loop-k-init
loop-k-init c = (omega arith, omega arith, omega arith, omega arith, Judged-none _ _ _ _ _ _ _, c.requires.5, refl)

pub shared_mark-m-requires : goal.shared_mark-m-requires
shared_mark-m-requires c = (Lies-first _ _ _ _ c.requires.0 (omega arith), c.requires.1, c.loop-k.invariant.4, c.loop-k.invariant.5)

pub loop-k-preserved : goal.loop-k-preserved
loop-k-preserved c = (omega arith, simp length-set (omega arith), simp length-set (omega arith), simp length-set (omega arith), Judged-more _ _ _ _ _ _ _ _ c.shared_mark-m.result (omega arith) (omega arith) (omega arith) c.shared_mark-m.ensures.0 c.loop-k.invariant.4, c.shared_mark-m.ensures.1, omega arith)

pub returns : goal.returns
returns c =
    let i = c.loop-k.invariant in
    let e : c.loop-k.k ≡ c.args.n = omega arith in
    rw (← e) (i.4, i.1, i.2, i.3)
