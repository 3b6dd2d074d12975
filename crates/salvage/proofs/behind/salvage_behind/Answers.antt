-- `salvage::behind::salvage_behind` meets its contract.
-- Assumes nothing.
use Rattle.salvage.proofs.Outcomes.{refuses, keys_refused, lists_refused}
use Rattle.typelib.proofs.WholeLaws.{fronted_Lies, fronted_Named, pool_small}
use Rattle.typelib.proofs.FrontLaws.{fronted_header}
use Rattle.number.proofs.Tools.{arith, sym, ◌∙◌}
use Rattle.salvage.proofs.behind.salvage_behind.Goals as goal

pub first_repeated-i-requires : goal.first_repeated-i-requires
first_repeated-i-requires c = let a = c.requires in (fronted_Lies _ _ _ a.0 a.1, fronted_Named _ _ _ a.0 a.1, omega (arith, pool_small _ _ _ a.0 a.1))

pub overflow_mul-i : goal.overflow_mul-i
overflow_mul-i c = let g = fronted_header _ _ c.requires.0 in omega (arith, g.few)

pub overflow_add-d : goal.overflow_add-d
overflow_add-d c = let g = fronted_header _ _ c.requires.0 in omega (arith, g.few, g.fits, g.inside, g.short)

pub returns-then-i-n : goal.returns-then-i-n
returns-then-i-n c = let a = c.requires in rw c.at.ensures (refuses _ _ _ (keys_refused _ _ a.0 _ a.1 _ _ c.first_repeated-i.ensures c.if-i-n.true))

pub returns-then-too_short : goal.returns-then-too_short
returns-then-too_short c = let a = c.requires in rw c.at-then-too_short.ensures (refuses _ _ _ (lists_refused _ _ a.0 _ a.1 (omega arith) _ (sym c.too_short.ensures ∙ c.if-too_short.true)))

pub salvage_left-requires : goal.salvage_left-requires
salvage_left-requires c = let a = c.requires in (a.0, a.1, a.2, omega arith, sym c.too_short.ensures ∙ c.if-too_short.false)
