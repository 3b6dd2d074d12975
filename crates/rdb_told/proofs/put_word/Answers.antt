-- `rdb_told::put_word` meets its contract.
-- Assumes nothing.
use Rattle.number.proofs.Tools.{arith}
use Rattle.window.proofs.WindowLaws.{shown_long}
use Rattle.rdb_told.proofs.ToldLaws.{word_none, word_some}
use Rattle.rdb_told.proofs.put_word.Goals as goal

pub returns-then-bytes-eq0 : goal.returns-then-bytes-eq0
returns-then-bytes-eq0 c = word_none c.args.bytes.now (omega arith)

pub put_shown-requires : goal.put_shown-requires
put_shown-requires c = omega (arith, shown_long c.args.bytes.now, c.put_bytes-at.ensures.next)

pub returns : goal.returns
returns c = word_some c.args.bytes.now (λ e. omega arith) c.put_bytes-at.ensures c.put_shown.ensures
