-- `runs::put_rest` meets its contract: the rest is of the first file.
-- Assumes nothing.
use Rattle.number.proofs.Tools.{◌∙◌, arith}
use Rattle.kept.proofs.NameLaws.{lent}
use Rattle.runs.proofs.put_rest.Goals as goal

pub put_rest-requires : goal.put_rest-requires
put_rest-requires c =
    let p = c.requires in
    (p.1.0, rw (lent c.args.store.now c.file_at-file.result.from c.file_at-file.result.end c.file_at-file.ensures.ordered (omega (arith, c.file_at-file.ensures.inside, c.told-store)) ∙ c.file_at-file.ensures.bytes, c.in_batch.ensures) p.1.1)
