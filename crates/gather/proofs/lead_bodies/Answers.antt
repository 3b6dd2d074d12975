-- `gather::lead_bodies` meets its contract.
-- Assumes nothing.
use lib.ListN.{length-set}
use Rattle.number.proofs.Tools.{arith, refl, ◌∙◌}
use Rattle.sorting.proofs.Tables.{fill_none, fill_more, fill_to}
use Rattle.gather.proofs.Leads as laws
use Rattle.gather.proofs.lead_bodies.Goals as goal

pub loop-q-init : goal.loop-q-init
loop-q-init c = (refl, fill_none _ _)

pub offset_bounds-t-q : goal.offset_bounds-t-q
offset_bounds-t-q c = omega (arith, c.requires.0.few)

pub bounds-t-q : goal.bounds-t-q
bounds-t-q c = omega (arith, c.requires.0.few)

pub index-r-requires : goal.index-r-requires
index-r-requires c = tt

pub offset_bounds-holders-r : goal.offset_bounds-holders-r
offset_bounds-holders-r c = omega (arith, (laws.read_holder _ _ _ _ _ c.loop-q-test.true c.index-r.ensures _ c.requires.0).0)

pub bounds-holders-r : goal.bounds-holders-r
bounds-holders-r c = omega (arith, (laws.read_holder _ _ _ _ _ c.loop-q-test.true c.index-r.ensures _ c.requires.0).0)

pub index-h-requires : goal.index-h-requires
index-h-requires c = tt

pub lead_held-requires : goal.lead_held-requires
lead_held-requires c = (rw c.index-h.ensures (laws.read_holder _ _ _ _ _ c.loop-q-test.true c.index-r.ensures _ c.requires.0).1, omega arith)

pub offset_bounds-led-q : goal.offset_bounds-led-q
offset_bounds-led-q c = omega (arith, c.requires.0.few)

pub bounds-led-q : goal.bounds-led-q
bounds-led-q c = omega (arith, c.requires.0.few, c.loop-q.invariant.0)

pub loop-q-preserved : goal.loop-q-preserved
loop-q-preserved c =
    let i = c.loop-q.invariant in
    let a = c.args in
    (simp length-set i.0, fill_more _ _ _ _ (omega (arith, i.0, c.requires.0.few)) (c.lead_held.ensures ∙ laws.led_body_lem a.own.now a.t.now a.c c.loop-q.q _ (omega arith) c.index-r.ensures a.n _ a.holders.now c.index-h.ensures) i.1)

pub returns : goal.returns
returns c = (fill_to _ _ _ _ (omega arith) c.loop-q.invariant.1, omega (arith, c.loop-q.invariant.0))
