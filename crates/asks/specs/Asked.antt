-- A question that the arguments ask, and what standard output gets for it.
-- Assumes nothing.
use Rattle.told.specs.declared.Told.{Told}
use Rattle.std.specs.Prelude.{◌≡◌, Bool, true, false, ◌⊎◌, List, [], ℕ, ℤ, None, Option, Some}
use Rattle.words.specs.Words.{words_of}
use Rattle.verbs.specs.declared.Question.{Question}
use Rattle.verbs.specs.declared.Verb.{Verb}
use Rattle.verbs.specs.declared.Verb.TheVariants as verb
use Rattle.tasks.specs.declared.Task.{Task}
use Rattle.tasks.specs.declared.Task.TheVariants.{Mistaken, Run, Pile, Types}
use Rattle.tasks.specs.Tasks.{argument, task_of}
use Rattle.commands.specs.Answer.{answer_of}
use Rattle.failures.specs.Lines.{unread_text}
use Rattle.number.specs.Limits.{file_most}
use Rattle.input.specs.File.{Unread, FirstBytes}
use Rattle.streams.specs.Printed.{Printed, OutputGone}
use Rattle.told.specs.Tells.{Tells}

-- room for a short file
abbrev pub short_room : ℕ
short_room = 65536

-- the line, whose words are parted by zero bytes, asks this
abbrev pub Asks : Question → List ℕ → Type 0
Asks q line = task_of 0 line ≡ Run (verb.Ask q)

unfoldable pub is_question : Verb → Bool
is_question (verb.Ask q) = true
is_question verb.List = false
is_question verb.Table = false
is_question verb.Normal = false
is_question verb.Adopt = false
is_question verb.Link = false
is_question verb.Salvage = false
is_question verb.Unknown = false

-- the task is a question about one file
unfoldable pub is_asked : Task → Bool
is_asked (Mistaken m) = false
is_asked (Run v) = is_question v
is_asked (Pile n) = false
is_asked (Types m q) = false

-- `asks` took it, and no session is to
unfoldable pub is_here : Option Told → Bool
is_here (Some t) = true
is_here None = false

-- the name of the file
unfoldable pub name_in : List ℕ → List ℕ
name_in line = argument 1 (words_of 0 line)

-- what a session answers to the line about this file
unfoldable pub answer_text : List ℕ → List ℕ → List ℕ
answer_text line file = (answer_of 0 line file [] []).saying.text

-- standard output got the answer from the bytes of the file that the line names, or why it cannot be read
pub data Replied (line : List ℕ) : Type 0 where
  answered : (file : List ℕ) → FirstBytes (name_in line) file_most file → Printed (answer_text line file) → Replied line
  unread : (e : ℤ) → Unread (name_in line) e → Printed (unread_text (name_in line) e) → Replied line

-- a line that was taken was replied to, unless standard output took no more
abbrev pub Took : List ℕ → Option Told → Type 0
Took line (Some t) = Tells (Replied line) t
Took line None = Unit {0}

-- the same, where no more is known than whether it was taken
abbrev pub TookIf : List ℕ → Bool → Type 0
TookIf line true = Replied line ⊎ OutputGone
TookIf line false = Unit {0}
