-- `runs::answer_kept` meets its contract.
-- Assumes nothing.
use Rattle.number.proofs.Tools.{◌∙◌, arith}
use Rattle.number.specs.Limits.{file_limit}
use Rattle.kept.proofs.NameLaws.{lent}
use Rattle.commands.proofs.SaveLaws.{answer_saves}
use Rattle.runs.proofs.answer_kept.Goals as goal

pub returns : goal.returns
returns c =
    let store = c.args.store.now in
    let one = lent store c.file_at-first.result.from c.file_at-first.result.end c.file_at-first.ensures.ordered (omega (arith, c.file_at-first.ensures.inside, c.told-store)) ∙ c.file_at-first.ensures.bytes in
    let two = lent store c.file_at-second.result.from c.file_at-second.result.end c.file_at-second.ensures.ordered (omega (arith, c.file_at-second.ensures.inside, c.told-store)) ∙ c.file_at-second.ensures.bytes in
    (answer_saves _ _ _ _ _ file_limit (omega (arith, c.told-out)) c.answer.ensures.save, rw (← one, ← two) c.answer.ensures)
