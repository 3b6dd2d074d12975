-- `cabi::piles::saniotka_pile_add` meets its contract.
-- Assumes nothing.
use Rattle.number.proofs.Tools.{arith}
use Rattle.numbers.proofs.Calls.{short, answers, kept, changed}
use Rattle.pile.proofs.Faces.{turn_parts}
use Rattle.cabi.specs.Piles.{pile_numbers}
use Rattle.cabi.proofs.piles.saniotka_pile_add.Goals as goal

pub returns-then-answer-lt-ROOM : goal.returns-then-answer-lt-ROOM
returns-then-answer-lt-ROOM c = (short (omega arith), kept _ _ _ (omega arith), kept _ _ _ (omega arith))

pub returns : goal.returns
returns c =
    let parts = turn_parts _ c.add-a.ensures.0 in
    (answers pile_numbers (omega arith) parts.0 c.put_added.ensures, changed _ _ _ (omega arith) parts.1, changed _ _ _ (omega arith) parts.2)
