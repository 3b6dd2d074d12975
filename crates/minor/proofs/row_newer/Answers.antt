-- `minor::row_newer` meets its contract: no row, or an entry of one file or of the other.
-- Assumes nothing.
use Rattle.std.specs.Prelude.{◌-◌}
use Rattle.number.proofs.Tools.{arith}
use Rattle.minor.proofs.Minors as laws
use Rattle.minor.proofs.row_newer.Goals as goal

pub returns-then-h-eq0 : goal.returns-then-h-eq0
returns-then-h-eq0 c = laws.new_none _ _ _ _ _ _ _ (omega arith)

pub returns-then-i-n : goal.returns-then-i-n
returns-then-i-n c = laws.new_first _ _ _ _ _ _ _ (c.args.h - 1) (omega arith) (omega arith) _ c.held_newer.ensures

pub returns : goal.returns
returns c = laws.new_second _ _ _ _ _ _ _ (c.args.h - 1) (omega arith) (omega arith) _ c.held_newer-2.ensures
