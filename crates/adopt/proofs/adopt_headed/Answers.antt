-- `adopt::adopt_headed` meets its contract.
-- Assumes nothing.
use Rattle.number.proofs.Tools.{refl, arith}
use Rattle.adopt.proofs.Answers as answers
use Rattle.adopt.proofs.adopt_headed.Goals as goal

pub returns-then-n-eq0 : goal.returns-then-n-eq0
returns-then-n-eq0 c =
    let a = c.args in
    rw (answers.moved_none a.file.now c.u16_at-n.result c.u32_at-field.result c.u32_at-pool.result c.u16_at-n.ensures c.u32_at-field.ensures c.u32_at-pool.ensures (omega arith)) c.put_fitted.ensures

pub returns-then-field-le33 : goal.returns-then-field-le33
returns-then-field-le33 c =
    let a = c.args in
    rw c.at.ensures (answers.stops 8 24 a.out.now _ (answers.moved_low a.file.now c.u16_at-n.result c.u32_at-field.result c.u32_at-pool.result c.u16_at-n.ensures c.u32_at-field.ensures c.u32_at-pool.ensures (λ e. omega arith) (omega arith)))

pub returns-then-pool-start : goal.returns-then-pool-start
returns-then-pool-start c =
    let a = c.args in
    rw c.at-then-pool-start.ensures (answers.stops 8 24 a.out.now _ (answers.moved_past a.file.now c.u16_at-n.result c.u32_at-field.result c.u32_at-pool.result c.u16_at-n.ensures c.u32_at-field.ensures c.u32_at-pool.ensures (λ e. omega arith) (omega arith) (omega arith)))

pub returns : goal.returns
returns c =
    let a = c.args in
    rw (answers.moved_some a.file.now c.u16_at-n.result c.u32_at-field.result c.u32_at-pool.result c.u16_at-n.ensures c.u32_at-field.ensures c.u32_at-pool.ensures (λ e. omega arith) (omega arith) (omega arith) _ refl) c.put_fitted-2.ensures
