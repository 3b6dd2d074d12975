-- A command's line, by its words.
-- Assumes nothing.
use Rattle.std.specs.Prelude.{List, ℕ}
use Rattle.words.specs.Words.{word_in}
use Rattle.said.specs.Saying.{Saying}
use Rattle.answers.specs.Commands.{check_saying, iid_saying, looks_saying, key_saying, method_saying, slot_saying, constant_saying}
use Rattle.verbs.specs.declared.Question.{Question}
use Rattle.verbs.specs.declared.Question.TheVariants.{Check, Iid, Looks, Key, Method, Slot, Constant}

-- what is said of the file s, asked with the words of the line; the word at 0 is the command, the one at 1 the file's name
unfoldable pub asked_saying : Question → List ℕ → List (List ℕ) → Saying
asked_saying Check s ws = check_saying s
asked_saying Iid s ws = iid_saying s (word_in 2 ws)
asked_saying Looks s ws = looks_saying s (word_in 2 ws)
asked_saying Key s ws = key_saying s (word_in 2 ws) (word_in 3 ws)
asked_saying Method s ws = method_saying s (word_in 2 ws) (word_in 3 ws) (word_in 4 ws)
asked_saying Slot s ws = slot_saying s (word_in 2 ws) (word_in 3 ws)
asked_saying Constant s ws = constant_saying s (word_in 2 ws) (word_in 3 ws)
