-- `salvage::reports::put_reports` meets its contract.
-- Assumes nothing.
use Rattle.std.specs.Prelude.{◌≡◌, ◌-◌}
use Rattle.salvage.proofs.Tables.{list_few, counted, grown}
use Rattle.salvage.specs.Tables.{list_by, index_at, reported_at}
use Rattle.mend.specs.Tables.{number_in, place_in}
use lib.Seq.{sets, length-sets}
use Rattle.number.proofs.Tools.{arith, ℕ, refl, ap, ◌∙◌, length}
use Rattle.salvage.proofs.reports.put_reports.Goals as goal

pub loop-k-init : goal.loop-k-init
unfolding list_by
loop-k-init c = (omega arith, refl, refl, refl, refl)

pub number_at-number-requires : goal.number_at-number-requires
number_at-number-requires c = (omega arith, omega arith, omega arith, omega arith, c.requires.5)

pub place_at-place-requires : goal.place_at-place-requires
place_at-place-requires c = (omega arith, omega arith, omega arith, omega arith)

pub put_report-c-requires : goal.put_report-c-requires
put_report-c-requires c = (omega arith, omega (arith, c.loop-k.invariant.1, list_few (number_in c.args.own.now c.args.ups.now c.args.n) index_at c.loop-k.k), omega (arith, ap length c.loop-k.invariant.2, length-sets c.args.indexes.now 0 (list_by (number_in c.args.own.now c.args.ups.now c.args.n) index_at c.loop-k.k)), omega (arith, ap length c.loop-k.invariant.3, length-sets c.args.numbers.now 0 (list_by (number_in c.args.own.now c.args.ups.now c.args.n) (reported_at (number_in c.args.own.now c.args.ups.now c.args.n)) c.loop-k.k)), omega (arith, ap length c.loop-k.invariant.4, length-sets c.args.places.now 0 (list_by (number_in c.args.own.now c.args.ups.now c.args.n) (place_in c.args.own.now c.args.at.now c.args.d) c.loop-k.k)))

pub loop-k-preserved : goal.loop-k-preserved
unfolding index_at reported_at
loop-k-preserved c = let m = c.number_at-number.ensures in let q = c.place_at-place.ensures in let p = c.put_report-c.ensures in let g = grown (number_in c.args.own.now c.args.ups.now c.args.n) c.loop-k.k c.loop-k.c _ m c.loop-k.invariant.1 in (omega arith, counted (number_in c.args.own.now c.args.ups.now c.args.n) c.loop-k.k c.loop-k.c _ m c.loop-k.invariant.1 _ p.0, g index_at _ c.args.indexes.now c.loop-k.indexes _ refl c.loop-k.invariant.2 p.1, g (reported_at (number_in c.args.own.now c.args.ups.now c.args.n)) _ c.args.numbers.now c.loop-k.numbers _ (ap (λ (x : ℕ). x - 1) m) c.loop-k.invariant.3 p.2, g (place_in c.args.own.now c.args.at.now c.args.d) _ c.args.places.now c.loop-k.places _ q c.loop-k.invariant.4 p.3)

pub shape_of-indexes : goal.shape_of-indexes
shape_of-indexes c = ap length c.loop-k.invariant.2 ∙ length-sets c.args.indexes.now 0 (list_by (number_in c.args.own.now c.args.ups.now c.args.n) index_at c.loop-k.k)

pub shape_of-numbers : goal.shape_of-numbers
shape_of-numbers c = ap length c.loop-k.invariant.3 ∙ length-sets c.args.numbers.now 0 (list_by (number_in c.args.own.now c.args.ups.now c.args.n) (reported_at (number_in c.args.own.now c.args.ups.now c.args.n)) c.loop-k.k)

pub shape_of-places : goal.shape_of-places
shape_of-places c = ap length c.loop-k.invariant.4 ∙ length-sets c.args.places.now 0 (list_by (number_in c.args.own.now c.args.ups.now c.args.n) (place_in c.args.own.now c.args.at.now c.args.d) c.loop-k.k)

pub returns : goal.returns
returns c = let e : c.loop-k.k ≡ c.args.n = omega arith in (c.loop-k.invariant.1 ∙ ap (λ (x : ℕ). length (list_by (number_in c.args.own.now c.args.ups.now c.args.n) index_at x)) e, c.loop-k.invariant.2 ∙ ap (λ (x : ℕ). sets c.args.indexes.now 0 (list_by (number_in c.args.own.now c.args.ups.now c.args.n) index_at x)) e, c.loop-k.invariant.3 ∙ ap (λ (x : ℕ). sets c.args.numbers.now 0 (list_by (number_in c.args.own.now c.args.ups.now c.args.n) (reported_at (number_in c.args.own.now c.args.ups.now c.args.n)) x)) e, c.loop-k.invariant.4 ∙ ap (λ (x : ℕ). sets c.args.places.now 0 (list_by (number_in c.args.own.now c.args.ups.now c.args.n) (place_in c.args.own.now c.args.at.now c.args.d) x)) e)
