-- `output::measure::measure` meets its contract.
-- Assumes nothing.
use Rattle.number.proofs.Tools.{arith, refl}
use Rattle.output.proofs.Lengths as laws
use Rattle.output.proofs.measure.measure.Goals as goal

pub first_uses-requires : goal.first_uses-requires
first_uses-requires c =
    let p = c.requires in
    (laws.spelt _ _ _ _ _ _ _ _ _ _ c.note_rows.result c.note_rows.ensures.0 _ c.in-Some.is p.0, omega arith)

pub lay_out-end-requires : goal.lay_out-end-requires
lay_out-end-requires c =
    let p = c.requires in
    let e = c.in-Some.is in
    let f = c.first_uses.ensures in
    (laws.spelt _ _ _ _ _ _ _ _ _ _ c.note_rows.result c.note_rows.ensures.0 _ e p.0, (laws.in_order _ _ _ _ _ _ _ _ _ _ c.note_rows.result c.note_rows.ensures.0 _ e p.0, (f.0, f.1)))

pub returns-then-end-gt-FILE_LIMIT : goal.returns-then-end-gt-FILE_LIMIT
returns-then-end-gt-FILE_LIMIT c =
    let e = c.in-Some.is in
    (laws.past_Measures _ _ _ _ _ _ _ _ _ _ c.note_rows.result c.note_rows.ensures.0 _ e _ c.lay_out-end.ensures.0 (omega arith) _ _ refl, c.note_rows.ensures.1)

pub overflow_mul-result : goal.overflow_mul-result
overflow_mul-result c = omega (arith, c.requires.0.leading.few)

pub overflow_add-result : goal.overflow_add-result
overflow_add-result c = omega (arith, c.requires.0.leading.few)

pub overflow_add-result-in-Some : goal.overflow_add-result-in-Some
overflow_add-result-in-Some c = omega (arith, c.requires.0.leading.few)

pub returns-in-None : goal.returns-in-None
returns-in-None c = (laws.over-Measures _ _ _ _ _ _ _ _ _ _ c.note_rows.result c.note_rows.ensures.0 c.in-None.is _ _ refl, c.note_rows.ensures.1)

pub returns-else-end-gt-FILE_LIMIT : goal.returns-else-end-gt-FILE_LIMIT
returns-else-end-gt-FILE_LIMIT c =
    let e = c.in-Some.is in
    let f = c.lay_out-end.ensures in
    (laws.all_Measures _ _ _ _ _ _ _ _ _ _ c.note_rows.result c.note_rows.ensures.0 _ e _ f.0 (omega arith) _ f.1 _ refl refl, c.note_rows.ensures.1)
