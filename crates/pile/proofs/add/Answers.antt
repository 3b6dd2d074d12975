-- `pile::add` meets its contract.
-- Assumes nothing.
use Rattle.number.proofs.Tools.{refl, arith, is_le, no_le, is_eq, no_eq}
use Rattle.pile.specs.Pile.{added}
use Rattle.pile.proofs.add.Goals as goal

pub returns-then-k-ge-PILE_LIMIT : goal.returns-then-k-ge-PILE_LIMIT
unfolding added
returns-then-k-ge-PILE_LIMIT c = (is_le _ _ _ _ (omega arith) refl, record { small = λ i. omega (arith, c.type_inv.file i) })

pub returns-then-k-eq0 : goal.returns-then-k-eq0
unfolding added
returns-then-k-eq0 c = (no_le _ _ _ _ (omega arith) (is_eq _ _ _ _ (omega arith) (cc)), record { small = λ i. omega (arith, c.type_inv.file i) })

pub returns : goal.returns
unfolding added
returns c = (no_le _ _ _ _ (omega arith) (no_eq _ _ _ _ (λ e. omega arith) (cc)), record { small = λ i. omega (arith, c.type_inv.file i) })
