-- `salvaging::written` meets its contract: 64 bytes for the first line and 63 for each other leave room for the newline of a batch.
-- Assumes nothing.
use mathlib.Core.List.{◌++◌}
use Rattle.number.proofs.Tools.{refl, arith}
use Rattle.text.proofs.WritingLaws.{Wrote-then}
use Rattle.said.proofs.SayingLaws.{says}
use Rattle.salvaging.specs.Text.{changed_line}
use Rattle.salvaging.specs.Lists.{list_lines, list_text}
use Rattle.salvaging.proofs.Lines.{closed, closing_short}
use Rattle.salvaging.proofs.written.Goals as goal

pub put_lines-end-requires : goal.put_lines-end-requires
put_lines-end-requires c = omega (arith, c.put_changed-at.ensures.1.0)

pub close-length-requires : goal.close-length-requires
close-length-requires c = omega (arith, c.put_lines-end.ensures.1, c.put_changed-at.ensures.1.0)

pub returns : goal.returns
unfolding list_text
returns c =
    let a = c.args in
    let lines = c.put_lines-end.ensures in
    let first = c.put_changed-at.ensures in
    let bytes = changed_line a.n a.changed ++ list_lines a.indexes.now a.numbers.now a.places.now a.changed in
    says _ _
    (rw (← c.in_one_line.ensures) (closed c.in_one_line.result bytes a.text.now _ _ _ _ (omega (arith, lines.1, first.1.0, first.1.1)) (Wrote-then a.text.now _ _ 0 first.0 lines.0) c.close-length.ensures.0 c.close-length.ensures.1))
    refl
    (omega (arith, lines.1, first.1.0, c.close-length.ensures.0, closing_short c.in_one_line.result))
