-- `cabi::piles::put_pile_refusal` meets its contract.
-- Assumes nothing.
use Rattle.number.proofs.Tools.{refl}
use Rattle.outcomes.specs.Numbers.{link_refusal_numbers, link_numbers}
use Rattle.cabi.specs.Piles.{pile_refusal_numbers}
use Rattle.cabi.proofs.piles.put_pile_refusal.Goals as goal

pub returns : goal.returns
unfolding pile_refusal_numbers link_refusal_numbers link_numbers
returns c = rw c.put_linked.ensures refl
