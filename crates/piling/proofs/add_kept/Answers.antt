-- `piling::add_kept` meets its contract.
-- Assumes nothing.
use Rattle.number.proofs.Tools.{◌∙◌, arith}
use Rattle.kept.proofs.NameLaws.{lent}
use Rattle.piling.proofs.PileLaws.{added-Short}
use Rattle.piling.proofs.add_kept.Goals as goal

pub returns : goal.returns
returns c =
    let a = c.args in
    let bytes = lent a.store.now c.file_at-file.result.from c.file_at-file.result.end c.file_at-file.ensures.ordered (omega (arith, c.file_at-file.ensures.inside)) ∙ c.file_at-file.ensures.bytes in
    (rw (← bytes) c.add.ensures.0, added-Short _ _ a.one.now a.other.now _ _ _ (omega arith) (omega arith) c.add.ensures.0)
