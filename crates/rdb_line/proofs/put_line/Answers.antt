-- `rdb_line::put_line` meets its contract.
-- Assumes nothing.
use Rattle.number.proofs.Tools.{ap, sym, subst, arith}
use Rattle.rdb_line.specs.declared.Target.{Target}
use Rattle.rdb_line.specs.Text.{line_text}
use Rattle.rdb_line.specs.Spelt.{words_at, line_of, Stored}
use Rattle.rdb_line.proofs.LineLaws.{Passed-as}
use Rattle.rdb_line.proofs.put_line.Goals as goal

pub put_entity-requires : goal.put_entity-requires
put_entity-requires c = (omega arith, c.requires.1, subst (Stored c.args.file.now) c.in-Entity.is c.requires.2, omega arith)

pub put_constant-requires : goal.put_constant-requires
put_constant-requires c = (omega arith, c.requires.1, subst (Stored c.args.file.now) c.in-Constant.is c.requires.2, omega arith)

pub returns-in-Entity : goal.returns-in-Entity
returns-in-Entity c =
    let a = c.args in
    let s = a.file.now in
    let e = c.put_entity.ensures in
    (Passed-as (ap (λ (x : Target). line_text (line_of s (words_at s a.places a.depth) x)) (sym c.in-Entity.is)) e.0, e.1)

pub returns-in-Constant : goal.returns-in-Constant
returns-in-Constant c =
    let a = c.args in
    let s = a.file.now in
    let e = c.put_constant.ensures in
    (Passed-as (ap (λ (x : Target). line_text (line_of s (words_at s a.places a.depth) x)) (sym c.in-Constant.is)) e.0, e.1)
