-- `rdb_said::value` meets its contract.
-- Assumes nothing.
use mathlib.Core.List.{◌++◌}
use Rattle.number.proofs.Tools.{refl, arith}
use Rattle.text.specs.Line.{newline}
use Rattle.text.proofs.WritingLaws.{wrote, Wrote-then}
use Rattle.said.specs.Texts.{found}
use Rattle.said.proofs.SayingLaws.{says, Says-as}
use Rattle.rdb.proofs.AnswerLaws.{stored_at}
use Rattle.rdb_list.specs.Listed.{value_in}
use Rattle.rdb_shown.specs.Texts.{value_text}
use Rattle.rdb_said.proofs.SaidLaws.{value_line}
use Rattle.rdb_said.proofs.value.Goals as goal

pub put_value-end-requires : goal.put_value-end-requires
put_value-end-requires c = let p = c.requires in ((stored_at _ _ p.1).room, p.0, omega arith)

pub returns : goal.returns
returns c =
    let a = c.args in
    let l = a.line.now in
    let value = value_text (value_in a.file.now a.o) in
    let e = c.put_value-end.ensures in
    let first = Wrote-then l found value 0 (wrote l found 0 c.put_bytes-at.ensures) e.0 in
    Says-as (value_line a.file.now a.o c.requires.1) (says _ _ (Wrote-then l (found ++ value) newline 0 first (wrote _ newline _ c.put_bytes-length.ensures)) refl (omega (arith, e.1)))
