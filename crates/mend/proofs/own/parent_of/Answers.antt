-- `mend::own::parent_of` meets its contract.
-- Assumes nothing.
use Rattle.mend.proofs.Marks.{up_none, up_inside, up_read}
use Rattle.number.proofs.Tools.{arith}
use Rattle.mend.proofs.own.parent_of.Goals as goal

pub returns-then-q-eq0 : goal.returns-then-q-eq0
returns-then-q-eq0 c = up_none _ _ _ _ _ _ c.u32_at-q.ensures c.requires.2 (omega arith)

pub u16_at-requires : goal.u16_at-requires
u16_at-requires c = up_inside _ _ _ _ _ _ c.u32_at-q.ensures c.requires.2 c.if-q-eq0.false

pub returns : goal.returns
returns c = up_read _ _ _ _ _ _ c.u32_at-q.ensures c.requires.2 c.if-q-eq0.false c.u16_at.ensures
