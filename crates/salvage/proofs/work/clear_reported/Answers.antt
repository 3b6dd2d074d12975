-- `salvage::work::clear_reported` meets its contract.
-- Assumes nothing.
use Rattle.std.specs.Prelude.{◌≡◌}
use Rattle.salvage.proofs.Tables.{length-clear_at}
use Rattle.salvage.proofs.Tables.{clear_by_more}
use Rattle.salvage.specs.Tables.{clear_at, clear_by}
use Rattle.mend.specs.Tables.{number_in}
use Rattle.number.proofs.Tools.{arith, ℕ, refl, sym, ap, ◌∙◌, length}
use Rattle.salvage.proofs.work.clear_reported.Goals as goal

pub loop-k-init : goal.loop-k-init
unfolding clear_by
loop-k-init c = (omega arith, refl, refl)

pub clear_at-requires : goal.clear_at-requires
clear_at-requires c = (omega arith, omega arith, omega arith, omega arith, omega arith, omega arith, c.requires.5)

pub loop-k-preserved : goal.loop-k-preserved
loop-k-preserved c = let e = c.clear_at.ensures in (omega arith, ap length e ∙ length-clear_at _ _ _ c.loop-k.copy ∙ c.loop-k.invariant.1, e ∙ ap (clear_at (number_in c.args.own.now c.args.ups.now c.args.n) c.args.d c.loop-k.k) c.loop-k.invariant.2 ∙ sym (clear_by_more _ _ _ _))

pub shape_of-copy : goal.shape_of-copy
shape_of-copy c = c.loop-k.invariant.1

pub returns : goal.returns
returns c = let e : c.loop-k.k ≡ c.args.n = omega arith in c.loop-k.invariant.2 ∙ ap (λ (x : ℕ). clear_by (number_in c.args.own.now c.args.ups.now c.args.n) c.args.d x c.args.copy.now) e
