-- `gather::note_key` meets its contract.
-- Assumes nothing.
use Rattle.number.proofs.Tools.{arith, sym, ◌∙◌}
use Rattle.key.specs.Key.{key_space}
use Rattle.gather.proofs.Keys as laws
use Rattle.gather.proofs.note_key.Goals as goal

pub is_default-requires : goal.is_default-requires
is_default-requires c = let g = c.requires.0 in record { value = key_space g.value; shown = rw c.pointer.ensures g.shown.space }

pub returns-then-is_default : goal.returns-then-is_default
returns-then-is_default c k h = laws.key_default _ _ _ _ _ _ (omega arith) k h (sym (c.is_default.ensures (key_space k) (rw c.pointer.ensures h.space)) ∙ c.if-is_default.true)

pub returns : goal.returns
returns c k h = laws.key_spaced _ _ _ _ _ _ (omega arith) k h (sym (c.is_default.ensures (key_space k) (rw c.pointer.ensures h.space)) ∙ c.if-is_default.false)
