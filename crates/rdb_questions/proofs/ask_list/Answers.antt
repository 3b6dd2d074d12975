-- `rdb_questions::ask_list` meets its contract.
-- Assumes nothing.
use Rattle.rdb_questions.proofs.ListLaws.{list_accepted, list-refused}
use Rattle.rdb_questions.proofs.ask_list.Goals as goal

pub returns-in-Ok : goal.returns-in-Ok
returns-in-Ok c = list_accepted _ _ _ c.check.ensures c.in-Ok.is c.paths.ensures

pub returns-in-Err : goal.returns-in-Err
returns-in-Err c = list-refused _ _ _ c.check.ensures _ c.in-Err.is c.refused.ensures c.said.ensures
