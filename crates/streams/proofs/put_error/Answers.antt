use Rattle.std.proofs.Common.{arith}
use Rattle.streams.proofs.PrintLaws.{Prints-line}
use Rattle.streams.proofs.put_error.Goals as goal

pub returns-then-n-gt1 : goal.returns-then-n-gt1
returns-then-n-gt1 c = λ line f. Prints-line line c.args.text.now c.args.n c.write-is_open.result f (omega (arith, c.told-text)) c.write-is_open.ensures

pub returns-else-n-gt1 : goal.returns-else-n-gt1
returns-else-n-gt1 c = λ line f. Prints-line line c.args.text.now c.args.n c.write-is_open.result f (omega (arith, c.told-text)) c.write-is_open.ensures
