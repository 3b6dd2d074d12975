-- `rdb_said::check` meets its contract.
-- Assumes nothing.
use Rattle.text.specs.Line.{line_of}
use Rattle.said.specs.Saying.{say_verdict, verdict_why}
use Rattle.rdb_said.specs.Sayings.{check_saying}
use Rattle.rdb_said.proofs.check.Goals as goal

pub returns-in-Ok : goal.returns-in-Ok
unfolding check_saying say_verdict verdict_why line_of
returns-in-Ok c = rw (← c.check.ensures, c.in-Ok.is) c.numbered.ensures

pub returns-in-Err : goal.returns-in-Err
unfolding check_saying say_verdict verdict_why
returns-in-Err c = rw (← c.check.ensures, c.in-Err.is) c.refused.ensures
