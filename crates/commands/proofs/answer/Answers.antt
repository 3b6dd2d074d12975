-- `commands::answer` meets its contract.
-- Assumes nothing.
use Rattle.commands.specs.Answer.{task_answer, answer_of}
use Rattle.commands.proofs.ReplyLaws.{Says-Replies, Opens-Replies, silent_Says}
use Rattle.commands.proofs.answer.Goals as goal

pub returns-in-Mistaken : goal.returns-in-Mistaken
unfolding answer_of task_answer
returns-in-Mistaken c = rw (← c.task_of.ensures, c.in-Mistaken.is) (Says-Replies _ _ _ _ _ _ _ _ c.tell.ensures c.answered.ensures)

pub returns-in-Run : goal.returns-in-Run
unfolding answer_of task_answer
returns-in-Run c = rw (← c.task_of.ensures, c.in-Run.is) c.run.ensures

pub returns-in-Pile : goal.returns-in-Pile
unfolding answer_of task_answer
returns-in-Pile c =
    rw (← c.task_of.ensures, c.in-Pile.is)
    (Says-Replies _ _ _ _ _ _ _ _ (silent_Says _ _ c.silent.ensures) c.answered-in-Pile.ensures)

pub returns-in-Types : goal.returns-in-Types
unfolding answer_of task_answer
returns-in-Types c = rw (← c.task_of.ensures, c.in-Types.is, ← c.in_batch.ensures) (Opens-Replies _ _ _ _ _ _ _ _ c.open.ensures c.opened.ensures)
