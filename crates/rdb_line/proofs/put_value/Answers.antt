-- `rdb_line::put_value` meets its contract.
-- Assumes nothing.
use mathlib.Core.List.{◌++◌}
use Rattle.number.proofs.Tools.{arith}
use Rattle.ascii.specs.Ascii.{ascii}
use Rattle.text.proofs.WritingLaws.{wrote, Wrote-then}
use Rattle.rdb_list.specs.Listed.{value_in}
use Rattle.rdb_shown.specs.Texts.{value_text}
use Rattle.rdb_line.proofs.LineLaws.{Wrote-front, Passed-as}
use Rattle.rdb_line.proofs.put_value.Goals as goal

pub put_bytes-requires : goal.put_bytes-requires
put_bytes-requires c =
    let a = c.args in
    let value = value_text (value_in a.file.now a.o) in
    let e = c.put_value-end.ensures in
    let w = Wrote-then a.line.now (ascii "C ") value 0 (wrote a.line.now (ascii "C ") 0 c.put_bytes-at.ensures) e.0 in
    rw (Wrote-front a.line.now (ascii "C " ++ value) w (omega (arith, w.next, e.1))) (omega (arith, w.next, e.1))

pub returns : goal.returns
returns c =
    let a = c.args in
    let value = value_text (value_in a.file.now a.o) in
    let e = c.put_value-end.ensures in
    let w = Wrote-then a.line.now (ascii "C ") value 0 (wrote a.line.now (ascii "C ") 0 c.put_bytes-at.ensures) e.0 in
    let p = Passed-as (Wrote-front a.line.now (ascii "C " ++ value) w (omega (arith, w.next, e.1))) c.put_bytes.ensures in
    (p, omega (arith, p.next, w.next, e.1))
