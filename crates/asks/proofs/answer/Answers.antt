-- `asks::answer` meets its contract: the line's task is the question.
-- Assumes nothing.
use Rattle.commands.specs.Answer.{verb_answer, task_answer, answer_of}
use Rattle.asks.proofs.answer.Goals as goal

pub returns : goal.returns
unfolding answer_of task_answer verb_answer
returns c second out = rw c.requires c.ask.ensures
