-- `commands::run` meets its contract.
-- Assumes nothing.
use Rattle.commands.specs.Answer.{verb_answer}
use Rattle.commands.proofs.ReplyLaws.{Says-Replies, Makes-Replies}
use Rattle.commands.proofs.run.Goals as goal

pub returns-in-Ask : goal.returns-in-Ask
unfolding verb_answer
returns-in-Ask c = rw c.in-Ask.is (Says-Replies _ _ _ _ _ _ _ _ c.ask.ensures c.answered.ensures)

pub returns-in-List : goal.returns-in-List
returns-in-List c = rw (c.in-List.is, ← c.in_batch.ensures) (c.list.ensures _ _ _)

pub returns-in-Table : goal.returns-in-Table
returns-in-Table c = rw (c.in-Table.is, ← c.in_batch-in-Table.ensures) (c.table.ensures _ _)

pub returns-in-Normal : goal.returns-in-Normal
unfolding verb_answer
returns-in-Normal c = rw c.in-Normal.is (Makes-Replies _ _ _ _ _ _ _ _ c.normal.ensures c.written.ensures)

pub returns-in-Adopt : goal.returns-in-Adopt
unfolding verb_answer
returns-in-Adopt c = rw c.in-Adopt.is (Makes-Replies _ _ _ _ _ _ _ _ c.adopt.ensures c.written-in-Adopt.ensures)

pub returns-in-Link : goal.returns-in-Link
unfolding verb_answer
returns-in-Link c = rw c.in-Link.is (Makes-Replies _ _ _ _ _ _ _ _ c.link.ensures c.written-in-Link.ensures)

pub returns-in-Salvage : goal.returns-in-Salvage
unfolding verb_answer
returns-in-Salvage c = rw (c.in-Salvage.is, ← c.in_batch-in-Salvage.ensures) (Makes-Replies _ _ _ _ _ _ _ _ c.salvage.ensures c.written-in-Salvage.ensures)

pub returns-in-Unknown : goal.returns-in-Unknown
unfolding verb_answer
returns-in-Unknown c = rw c.in-Unknown.is (Says-Replies _ _ _ _ _ _ _ _ c.tell.ensures c.answered-in-Unknown.ensures)
