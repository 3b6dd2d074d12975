-- `interfaces::parent_number` meets its contract.
-- Assumes nothing.
use mathlib.Core.Logic.{inl, inr}
use Rattle.number.proofs.Tools.{arith, refl, is_eq, no_eq}
use Rattle.writing.specs.Source.{renumber}
use Rattle.interfaces.specs.Source.{renumber_parent}
use Rattle.interfaces.proofs.parent_number.Goals as goal

pub returns-then-r-eq0 : goal.returns-then-r-eq0
unfolding renumber_parent
returns-then-r-eq0 c = is_eq _ _ _ _ (omega arith) refl

pub overflow_add-result : goal.overflow_add-result
overflow_add-result c = elim c.requires.0 [ inl e ↦ absurd (omega arith) | inr t ↦ omega arith ]

pub offset_bounds-place-shift : goal.offset_bounds-place-shift
offset_bounds-place-shift c = elim c.requires.0 [ inl e ↦ absurd (omega arith) | inr t ↦ omega arith ]

pub bounds-place-shift : goal.bounds-place-shift
bounds-place-shift c = elim c.requires.0 [ inl e ↦ absurd (omega arith) | inr t ↦ omega arith ]

pub returns : goal.returns
unfolding renumber_parent renumber
returns c = no_eq _ _ _ _ (λ e. omega arith) refl
