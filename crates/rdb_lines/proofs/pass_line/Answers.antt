-- `rdb_lines::pass_line` meets its contract.
-- Assumes nothing.
use Rattle.number.proofs.Tools.{arith}
use Rattle.rdb_lines.proofs.WalkLaws.{Walked-skip, Walked-line, Fit-line}
use Rattle.rdb_lines.proofs.pass_line.Goals as goal

pub returns-then-skip-gt0 : goal.returns-then-skip-gt0
returns-then-skip-gt0 c = (Walked-skip _ c.args.p c.requires.2 (omega arith), record { few = c.requires.0.fit.few; last = c.requires.0.fit.last; near = c.requires.0.fit.near })

pub put_line-end-requires : goal.put_line-end-requires
put_line-end-requires c = (c.requires.0.small, c.requires.0.spelt, c.requires.1, omega (arith, c.requires.0.low, c.requires.2))

pub overflow_add-result : goal.overflow_add-result
overflow_add-result c = omega (arith, c.requires.0.fit.few, c.requires.0.low, c.requires.2)

pub returns : goal.returns
returns c =
    let e = c.put_line-end.ensures in
    (Walked-line _ c.args.p c.requires.2 (omega arith) e.0, Fit-line _ c.args.p c.requires.2 c.requires.0.fit e.0 e.1)
