use Rattle.std.proofs.Common.{refl, arith}
use Rattle.kept.specs.Names.{row_added, one_more}
use Rattle.kept.proofs.RowLaws.{Tidy-put}
use Rattle.kept.proofs.add.Goals as goal

pub returns : goal.returns
unfolding row_added one_more
returns c =
    let a = c.args in
    let e = c.put_row.ensures in
    (Tidy-put a.state a.file a.kept a.rows.now (omega (arith, c.told-rows)) _ e c.requires.0 (omega arith) (omega arith) (omega arith) (omega arith), (refl, e))
