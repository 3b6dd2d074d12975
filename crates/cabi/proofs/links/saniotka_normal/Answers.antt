-- `cabi::links::saniotka_normal` meets its contract.
-- Assumes nothing.
use Rattle.number.proofs.Tools.{arith}
use Rattle.numbers.proofs.Calls.{short, answers, kept, changed}
use Rattle.outcomes.specs.Numbers.{normal_numbers}
use Rattle.cabi.proofs.links.saniotka_normal.Goals as goal

pub returns-then-answer-lt-ROOM : goal.returns-then-answer-lt-ROOM
returns-then-answer-lt-ROOM c = (short (omega arith), kept _ _ _ (omega arith))

pub returns : goal.returns
returns c =
    let called = c.normalise-a.ensures in
    (answers normal_numbers (omega arith) called.0 c.put_normalised.ensures, changed _ _ _ (omega arith) called.1)
