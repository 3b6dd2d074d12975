-- `asks::run` meets its contract: what is no question is left to a session.
-- Assumes nothing.
use Rattle.number.proofs.Tools.{sym, ◌∙◌, ap}
use Rattle.tasks.specs.declared.Task.TheVariants.{Run}
use Rattle.asks.specs.Asked.{is_question, is_asked, is_here}
use Rattle.asks.proofs.AskLaws.{other_verb, other_task_lem}
use Rattle.asks.proofs.run.Goals as goal

pub ask_file-requires : goal.ask_file-requires
ask_file-requires c = (c.requires, sym c.task_of.ensures ∙ c.in-Run.is ∙ ap Run c.in-Ask.is)

pub returns-in-Ask : goal.returns-in-Ask
unfolding is_here is_asked is_question
returns-in-Ask c = (rw (← c.task_of.ensures, c.in-Run.is, c.in-Ask.is), c.ask_file.ensures)

pub returns-in_default-verb : goal.returns-in_default-verb
unfolding is_here is_asked
returns-in_default-verb c = (rw (← c.task_of.ensures, c.in-Run.is) (sym (other_verb _ c.in_default-verb.not-Ask)), tt)

pub returns-in_default : goal.returns-in_default
unfolding is_here
returns-in_default c = (rw (← c.task_of.ensures) (sym (other_task_lem _ c.in_default.not-Run)), tt)
