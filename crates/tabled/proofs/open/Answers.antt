-- `tabled::open` meets its contract: the default namespace, or the one given.
-- Assumes nothing.
use Rattle.number.proofs.Tools.{sym, ◌∙◌}
use Rattle.answers.proofs.CommandLaws.{space_default, space_given}
use Rattle.tabled.specs.Text.{table_saying}
use Rattle.tabled.proofs.open.Goals as goal

pub returns-then-is_same : goal.returns-then-is_same
unfolding table_saying
returns-then-is_same c =
    let a = c.args in
    rw (← space_default a.space.now (sym c.is_same.ensures ∙ c.if-is_same.true)) c.of_file.ensures

pub returns : goal.returns
unfolding table_saying
returns c =
    let a = c.args in
    rw (← space_given a.space.now (sym c.is_same.ensures ∙ c.if-is_same.false)) c.of_file-2.ensures
