-- `gather::lead_rows` meets its contract.
-- Assumes nothing.
use lib.ListN.{length-set}
use Rattle.number.proofs.Tools.{arith, refl, ◌∙◌}
use Rattle.sorting.proofs.Tables.{fill_none, fill_more, fill_to}
use Rattle.gather.proofs.Leads as laws
use Rattle.gather.proofs.lead_rows.Goals as goal

pub loop-q-init : goal.loop-q-init
loop-q-init c = (refl, fill_none _ _)

pub offset_bounds-t-q : goal.offset_bounds-t-q
offset_bounds-t-q c = omega (arith, c.requires.0.few)

pub bounds-t-q : goal.bounds-t-q
bounds-t-q c = omega (arith, c.requires.0.few)

pub index-r-requires : goal.index-r-requires
index-r-requires c = tt

pub offset_bounds-pointers-r : goal.offset_bounds-pointers-r
offset_bounds-pointers-r c = omega (arith, laws.read_pointer _ _ _ _ _ c.loop-q-test.true c.index-r.ensures c.requires.0)

pub bounds-pointers-r : goal.bounds-pointers-r
bounds-pointers-r c = omega (arith, laws.read_pointer _ _ _ _ _ c.loop-q-test.true c.index-r.ensures c.requires.0)

pub lead-requires : goal.lead-requires
lead-requires c = (laws.read_pointer _ _ _ _ _ c.loop-q-test.true c.index-r.ensures c.requires.0).1

pub offset_bounds-led-q : goal.offset_bounds-led-q
offset_bounds-led-q c = omega (arith, c.requires.0.few)

pub bounds-led-q : goal.bounds-led-q
bounds-led-q c = omega (arith, c.requires.0.few, c.loop-q.invariant.0)

pub loop-q-preserved : goal.loop-q-preserved
loop-q-preserved c =
    let i = c.loop-q.invariant in
    let a = c.args in
    (simp length-set i.0, fill_more _ _ _ _ (omega (arith, i.0, c.requires.0.few)) (c.lead.ensures ∙ laws.led_row_lem a.pointers.now a.t.now a.c c.loop-q.q _ (omega arith) c.index-r.ensures a.n) i.1)

pub returns : goal.returns
returns c = (fill_to _ _ _ _ (omega arith) c.loop-q.invariant.1, omega (arith, c.loop-q.invariant.0))
