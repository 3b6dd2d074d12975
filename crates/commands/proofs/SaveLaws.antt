-- What is to be saved lies within the output.
-- Assumes nothing.
use Rattle.std.specs.Prelude.{Option, ℕ}
use mathlib.Core.List.{List}
use mathlib.Core.Path.{◌≡◌}
use mathlib.Core.Bool.{Bool}
use Prim.Native.Nat.{ℕ}
use lib.ListN.{length}
use Rattle.words.specs.Words.{words_of}
use Rattle.verbs.specs.declared.Verb.{Verb}
use Rattle.verbs.specs.declared.Verb.TheVariants as verb
use Rattle.tasks.specs.declared.Task.{Task}
use Rattle.tasks.specs.declared.Task.TheVariants.{Mistaken, Run, Pile, Types}
use Rattle.tasks.specs.Tasks.{in_batch, task_of}
use Rattle.made.specs.Made.{normal_made, adopt_made, link_made, salvage_made, SavedIn}
use Rattle.made.proofs.SaveLaws.{normal_saves, adopt_saves, link_saves, salvage_saves}
use Rattle.commands.specs.Answer.{verb_answer, task_answer, answer_of}

verb_saves : (b : Bool) (v : Verb) (ws : List (List ℕ)) (first second out : List ℕ) → SavedIn (length out) (verb_answer b v ws first second out).save
unfolding verb_answer normal_made adopt_made link_made salvage_made
verb_saves b (verb.Ask q) ws first second out = tt
verb_saves b verb.List ws first second out = tt
verb_saves b verb.Table ws first second out = tt
verb_saves b verb.Normal ws first second out = normal_saves first out
verb_saves b verb.Adopt ws first second out = adopt_saves first out
verb_saves b verb.Link ws first second out = link_saves first second out
verb_saves b verb.Salvage ws first second out = salvage_saves first out
verb_saves b verb.Unknown ws first second out = tt

pub answer_saves : (separator : ℕ) (line first second out : List ℕ) (n : ℕ) {s : Option ℕ} → length out ≡ n → s ≡ (answer_of separator line first second out).save → SavedIn n s
unfolding answer_of task_answer
answer_saves separator line first second out n {s} k e = rw (← k, e) (task (task_of separator line))
  where
    task : (t : Task) → SavedIn (length out) (task_answer (in_batch separator) t (words_of separator line) first second out).save
    task (Mistaken m) = tt
    task (Run v) = verb_saves (in_batch separator) v (words_of separator line) first second out
    task (Pile k) = tt
    task (Types m q) = tt
