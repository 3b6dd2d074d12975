-- `check_file::answer` meets its contract: the line of what the check answers.
-- Assumes nothing.
use Rattle.check_file.proofs.answer.Goals as goal

pub returns : goal.returns
returns c = rw (← c.check.ensures.value) c.put_verdict.ensures
