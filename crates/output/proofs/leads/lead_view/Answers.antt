-- `output::leads::lead_view` meets its contract: pool pointers of both files' rows, then those of the view's.
-- Assumes nothing.
use Rattle.number.proofs.Tools.{arith}
use Rattle.gather.proofs.Views as views
use Rattle.output.proofs.Givens as leads
use Rattle.output.proofs.leads.lead_view.Goals as goal

pub note_pointers-requires : goal.note_pointers-requires
note_pointers-requires c =
    let g = c.requires.0 in
    (leads.first_Lies g, omega (arith, leads.rows_few g), omega arith, omega arith)

pub note_pointers-requires-2 : goal.note_pointers-requires-2
note_pointers-requires-2 c =
    let g = c.requires.0 in
    let n = c.note_pointers.ensures in
    (leads.second_Lies g, omega (arith, leads.rows_few g), n.0.long, n.1.long)

pub note_own-requires : goal.note_own-requires
note_own-requires c =
    let g = c.requires.0 in
    (leads.first_Lies g, omega (arith, leads.rows_few g), omega arith)

pub note_own-requires-2 : goal.note_own-requires-2
note_own-requires-2 c =
    let g = c.requires.0 in
    (leads.second_Lies g, omega (arith, leads.rows_few g), c.note_own.ensures.long)

pub lead_rows-requires : goal.lead_rows-requires
lead_rows-requires c =
    let p = c.requires in
    let n = c.note_pointers.ensures in
    let m = c.note_pointers-2.ensures in
    let o = c.note_own.ensures in
    let q = c.note_own-2.ensures in
    (views.names_in_lem _ _ _ _ _ _ p.0.value p.0.shown _ _ _ _ _ _ _ _ _ n.1 m.1 n.0 m.0 o q _ _ _ p.1.0, (m.1.long, (omega arith, omega arith)))

pub lead_rows-requires-2 : goal.lead_rows-requires-2
lead_rows-requires-2 c =
    let p = c.requires in
    let n = c.note_pointers.ensures in
    let m = c.note_pointers-2.ensures in
    let o = c.note_own.ensures in
    let q = c.note_own-2.ensures in
    (views.spaces_in _ _ _ _ _ _ p.0.value p.0.shown _ _ _ _ _ _ _ _ _ n.1 m.1 n.0 m.0 o q _ _ _ p.1.0, (m.0.long, (omega arith, omega arith)))

pub lead_bodies-requires : goal.lead_bodies-requires
lead_bodies-requires c =
    let p = c.requires in
    let n = c.note_pointers.ensures in
    let m = c.note_pointers-2.ensures in
    let o = c.note_own.ensures in
    let q = c.note_own-2.ensures in
    (views.holders_in _ _ _ _ _ _ p.0.value p.0.shown _ _ _ _ _ _ _ _ _ n.1 m.1 n.0 m.0 o q _ _ _ p.1.0, (q.long, (omega arith, (omega arith, omega arith))))

pub returns : goal.returns
returns c =
    let p = c.requires in
    let n = c.note_pointers.ensures in
    let m = c.note_pointers-2.ensures in
    let o = c.note_own.ensures in
    let q = c.note_own-2.ensures in
    let a = c.lead_rows.ensures in
    let b = c.lead_rows-2.ensures in
    let d = c.lead_bodies.ensures in
    (λ x iid h. views.view_Leading _ _ _ _ _ _ x h _ _ _ _ _ _ _ _ _ n.1 m.1 n.0 m.0 o q _ _ _ p.1.0 iid _ _ _ a.0 b.0 d.0, (a.1, (b.1, d.1)))
