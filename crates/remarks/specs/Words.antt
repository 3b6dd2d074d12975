-- Which word of a malformed question is at fault.
-- Assumes nothing.
use Rattle.std.specs.Prelude.{List, ℕ}
use Rattle.number.specs.Choice.{when◌then◌else◌}
use Rattle.reader.specs.Rules.{is_identifier}
use Rattle.verbs.specs.declared.Question.{Question}
use Rattle.verbs.specs.declared.Question.TheVariants.{Check, Iid, Looks, Key, Method, Slot, Constant}

-- by the word after the first of the question's own, which is a name but for a slot: 0 none, 1 the IID, 2 the namespace, 3 the name, 4 the index
unfoldable pub faulty_word : Question → List ℕ → ℕ
faulty_word Check name = 0
faulty_word Iid name = 1
faulty_word Looks name = 1
faulty_word Key name = when is_identifier name then 2 else 3
faulty_word Method name = when is_identifier name then 4 else 3
faulty_word Slot name = 4
faulty_word Constant name = when is_identifier name then 4 else 3
