-- `rdb_questions::open` meets its contract.
-- Assumes nothing.
use Rattle.streamed.proofs.StreamLaws.{said_Opens}
use Rattle.rdb_questions.specs.Lines.{types_saying}
use Rattle.rdb_questions.proofs.open.Goals as goal

pub returns-in-Check : goal.returns-in-Check
unfolding types_saying
returns-in-Check c = rw c.in-Check.is (said_Opens _ _ _ _ _ _ c.check.ensures c.said.ensures)

pub returns-in-List : goal.returns-in-List
unfolding types_saying
returns-in-List c = rw c.in-List.is (c.ask_list.ensures _)

pub returns-in-Entity : goal.returns-in-Entity
unfolding types_saying
returns-in-Entity c = rw c.in-Entity.is (said_Opens _ _ _ _ _ _ c.ask_entity.ensures c.said-in-Entity.ensures)

pub returns-in-Constant : goal.returns-in-Constant
unfolding types_saying
returns-in-Constant c = rw c.in-Constant.is (said_Opens _ _ _ _ _ _ c.ask_constant.ensures c.said-in-Constant.ensures)

pub returns-in-Part : goal.returns-in-Part
unfolding types_saying
returns-in-Part c = rw c.in-Part.is (c.ask_part.ensures _)

pub returns-in-Inner : goal.returns-in-Inner
unfolding types_saying
returns-in-Inner c = rw c.in-Inner.is (c.ask_inner.ensures _)

pub returns-in-Which : goal.returns-in-Which
unfolding types_saying
returns-in-Which c = rw c.in-Which.is (said_Opens _ _ _ _ _ _ c.usage.ensures c.said-in-Which.ensures)

pub returns-in-Unknown : goal.returns-in-Unknown
unfolding types_saying
returns-in-Unknown c = rw c.in-Unknown.is (said_Opens _ _ _ _ _ _ c.usage-in-Unknown.ensures c.said-in-Unknown.ensures)
