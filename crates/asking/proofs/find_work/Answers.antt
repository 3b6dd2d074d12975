-- `asking::find_work` meets its contract: the words lie within the line.
-- Assumes nothing.
use Rattle.number.proofs.Tools.{arith}
use Rattle.asking.proofs.find_work.Goals as goal

pub put_help_of-n-requires : goal.put_help_of-n-requires
put_help_of-n-requires c = omega (arith, c.in-HelpOf.ensures.within)

pub returns-in-Words : goal.returns-in-Words
returns-in-Words c = c.in-Words.ensures.within
