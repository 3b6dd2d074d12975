-- `cabi::salvages::saniotka_salvage` meets its contract.
-- Assumes nothing.
use Rattle.number.proofs.Tools.{arith}
use Rattle.numbers.proofs.Calls.{short, answers, kept, changed}
use Rattle.cabi.specs.Salvages.{salvaged_numbers}
use Rattle.cabi.proofs.salvages.saniotka_salvage.Goals as goal

pub returns-then-answer-lt-ROOM : goal.returns-then-answer-lt-ROOM
returns-then-answer-lt-ROOM c =
    record {
      answer = short (omega arith);
      out = kept _ _ _ (omega arith);
      indexes = kept _ _ _ (omega arith);
      numbers = kept _ _ _ (omega arith);
      places = kept _ _ _ (omega arith);
    }

pub returns : goal.returns
returns c =
    let called = c.salvage-a.ensures in
    record {
      answer = answers salvaged_numbers (omega arith) called.answer c.put_salvaged.ensures;
      out = changed _ _ _ (omega arith) called.out;
      indexes = changed _ _ _ (omega arith) called.indexes;
      numbers = changed _ _ _ (omega arith) called.numbers;
      places = changed _ _ _ (omega arith) called.places;
    }
