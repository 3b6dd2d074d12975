-- The table of an interface as an answer.
-- Assumes nothing.
use Rattle.reading.specs.declared.Refusal.{Refusal}
use Rattle.std.specs.Prelude.{Bool, List, ◌++◌, ℕ, Err, None, Ok, Option, Result, Some}
use Rattle.reading.specs.Got.{Got, got, bad}
use Rattle.reader.specs.Values.{Typelib, entries_in, Entry}
use Rattle.reader.specs.Reader.{decode}
use Rattle.lookup.specs.Question.{refusal, key_answer}
use Rattle.slots.specs.Table.{table_of}
use Rattle.said.specs.declared.Why.TheVariants.{Answered}
use Rattle.said.specs.Saying.{Saying, saying}
use Rattle.sayings.specs.Sayings.{say_interface}
use Rattle.answers.specs.Commands.{space_of}
use Rattle.listed.specs.Text.{shown, closing}

-- in a batch the table is one line, however many it has by itself, none too; `none` and a refusal are one line anywhere
unfoldable pub keyed_saying : Bool → List (Entry ℕ) → Result (Option ℕ) Refusal → Saying
keyed_saying in_batch es (Ok (Some i)) = saying (shown in_batch (table_of es i) ++ closing in_batch) Answered
keyed_saying in_batch es (Ok None) = say_interface (Ok None)
keyed_saying in_batch es (Err x) = say_interface (Err x)

-- of a decoded file, asked with a key; the file's refusal comes first
unfoldable pub decoded_saying : Bool → Got Typelib → List ℕ → List ℕ → Saying
decoded_saying in_batch (bad n q) space name = say_interface (Err (refusal n q))
decoded_saying in_batch (got t e) space name = keyed_saying in_batch (entries_in t) (key_answer (entries_in t) space name)

-- table FILE NAMESPACE NAME
unfoldable pub table_saying : Bool → List ℕ → List ℕ → List ℕ → Saying
table_saying in_batch s space name = decoded_saying in_batch (decode s) (space_of space) name
