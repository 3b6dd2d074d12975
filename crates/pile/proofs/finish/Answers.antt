-- `pile::finish` meets its contract.
-- Assumes nothing.
use Rattle.number.proofs.Tools.{refl, ap, ◌∙◌, ℕ, arith, is_lt, no_lt}
use mathlib.Core.List.{List}
use Rattle.pile.proofs.Faces.{empty_bytes}
use Rattle.pile.specs.Pile.{added, ended}
use Rattle.pile.proofs.finish.Goals as goal

pub returns-then-k-gt1 : goal.returns-then-k-gt1
unfolding ended
returns-then-k-gt1 c = is_lt _ _ _ _ (omega arith) refl

pub returns : goal.returns
unfolding ended
returns c =
    let a = c.args in
    no_lt _ _ _ _ (omega arith) (c.add.ensures.0 ∙ ap (λ (f : List ℕ). added a.pile f a.one.now a.other.now) empty_bytes)
