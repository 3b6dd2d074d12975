-- The answer to a line: what standard output gets, every byte of the output buffer, and what of it is to be saved.
-- Assumes nothing.
use Rattle.std.specs.Prelude.{◌≡◌, Bool, List, [], ℕ, None}
use Rattle.words.specs.Words.{words_of, word_in}
use Rattle.verbs.specs.declared.Verb.{Verb}
use Rattle.verbs.specs.declared.Verb.TheVariants as verb
use Rattle.said.specs.declared.Why.TheVariants.{Answered}
use Rattle.said.specs.declared.Said.{Said}
use Rattle.said.specs.Saying.{saying, mistaken}
use Rattle.questions.specs.Lines.{asked_saying}
use Rattle.rdb_questions.specs.Lines.{types_saying}
use Rattle.link.specs.declared.Which.TheVariants.{First}
use Rattle.made.specs.declared.Made.{Made}
use Rattle.made.specs.Made.{Answer, answered, normal_made, adopt_made, link_made, salvage_made}
use Rattle.listed.specs.Text.{list_saying}
use Rattle.streamed.specs.declared.Begun.{Begun}
use Rattle.streamed.specs.Stream.{no_rest, Opens}
use Rattle.tabled.specs.Text.{table_saying}
use Rattle.tasks.specs.declared.Mistake.TheVariants.{Words}
use Rattle.tasks.specs.declared.Task.{Task}
use Rattle.tasks.specs.declared.Task.TheVariants.{Mistaken, Run, Pile, Types}
use Rattle.tasks.specs.Tasks.{in_batch, task_of}
use Rattle.tasks.specs.Mistakes.{mistake_text}
use Rattle.commands.specs.declared.Reply.{Reply}

-- the command with the words ws, about the bytes of one file or of two
unfoldable pub verb_answer : Bool → Verb → List (List ℕ) → List ℕ → List ℕ → List ℕ → Answer
verb_answer b (verb.Ask q) ws first second out = answered (asked_saying q first ws) out
verb_answer b verb.List ws first second out = answered (list_saying b first) out
verb_answer b verb.Table ws first second out = answered (table_saying b first (word_in 2 ws) (word_in 3 ws)) out
verb_answer b verb.Normal ws first second out = normal_made first out
verb_answer b verb.Adopt ws first second out = adopt_made first out
verb_answer b verb.Link ws first second out = link_made first second out
verb_answer b verb.Salvage ws first second out = salvage_made b first out
verb_answer b verb.Unknown ws first second out = answered (mistaken (mistake_text (Words verb.Unknown))) out

-- a pile is answered file by file (crate `piling`), and here nothing is said of it
unfoldable pub task_answer : Bool → Task → List (List ℕ) → List ℕ → List ℕ → List ℕ → Answer
task_answer b (Mistaken m) ws first second out = answered (mistaken (mistake_text m)) out
task_answer b (Run v) ws first second out = verb_answer b v ws first second out
task_answer b (Pile n) ws first second out = answered (saying [] Answered) out
task_answer b (Types m q) ws first second out = answered (types_saying b m q first ws) out

-- the line, about the bytes of the file or files that it names
unfoldable pub answer_of : ℕ → List ℕ → List ℕ → List ℕ → List ℕ → Answer
answer_of separator line first second out = task_answer (in_batch separator) (task_of separator line) (words_of separator line) first second out

abbrev pub silence : Said
silence = record { length = 0; why = Answered }

-- the reply of one line
abbrev pub one_line : Said → Reply
one_line said = record { said = said; rest = no_rest; whose = First; save = None }

-- the reply that begins with what was opened
abbrev pub opened_reply : Begun → Reply
opened_reply x = record { said = x.said; rest = x.rest; whose = First; save = None }

-- the reply of what was made
abbrev pub made_reply : Made → Reply
made_reply x = record { said = x.said; rest = no_rest; whose = x.whose; save = x.save }

-- the answer's text begins at the front of the text buffer, where nothing else was changed, and the rest is what is left of it, from the file s; the output buffer is as the answer says
pub record Replies (b : Bool) (x : Answer) (s before : List ℕ) (r : Reply) (out after : List ℕ) : Type 0 where
  pub opens : Opens b x.saying s before (record { said = r.said; rest = r.rest }) after
  pub whose : r.whose ≡ x.whose
  pub save : r.save ≡ x.save
  pub output : out ≡ x.output
