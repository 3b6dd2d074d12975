-- `rdb_lines::next_cursor` meets its contract.
-- Assumes nothing.
use Rattle.number.proofs.Tools.{refl}
use Rattle.rdb_lines.proofs.next_cursor.Goals as goal

pub returns : goal.returns
returns c = refl
