-- `rdb_line::put_entity` meets its contract.
-- Assumes nothing.
use Rattle.number.proofs.Tools.{arith, get_or}
use Rattle.ascii.specs.Ascii.{ascii}
use Rattle.text.specs.Line.{space}
use Rattle.rdb_line.proofs.LineLaws.{labelled_short, entity-Passed}
use Rattle.rdb_line.proofs.put_entity.Goals as goal

pub bounds-file-o : goal.bounds-file-o
bounds-file-o c = omega (arith, c.type_inv.file c.args.o)

pub put_labelled-path-requires : goal.put_labelled-path-requires
put_labelled-path-requires c =
    let a = c.args in
    omega (arith, labelled_short (ascii "E ") (get_or a.file.now a.o 0) (omega (arith, c.type_inv.file a.o)) c.put_labelled-offset.ensures)

pub put_end-requires : goal.put_end-requires
put_end-requires c =
    let a = c.args in
    (omega arith, c.requires.1, omega (arith, labelled_short (ascii "E ") (get_or a.file.now a.o 0) (omega (arith, c.type_inv.file a.o)) c.put_labelled-offset.ensures, labelled_short space a.o (omega arith) c.put_labelled-path.ensures))

pub returns : goal.returns
returns c =
    let a = c.args in
    let first = c.put_labelled-offset.ensures in
    let second = c.put_labelled-path.ensures in
    let end = c.put_end.ensures in
    (entity-Passed a.file.now _ a.o first second end.0, omega (arith, labelled_short (ascii "E ") (get_or a.file.now a.o 0) (omega (arith, c.type_inv.file a.o)) first, labelled_short space a.o (omega arith) second, end.1))
