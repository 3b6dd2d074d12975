-- `runs::run` meets its contract: a pile has no more files than there may be.
-- Assumes nothing.
use Rattle.std.specs.Prelude.{◌≤◌}
use Rattle.number.specs.Limits.{pile_limit}
use Rattle.number.proofs.Tools.{sym, subst, ◌∙◌}
use Rattle.tasks.specs.declared.Task.{Task}
use Rattle.tasks.specs.Tasks.{files_of}
use Rattle.tasks.proofs.CountLaws.{files_few}
use Rattle.runs.proofs.run.Goals as goal

pub run-requires : goal.run-requires
unfolding files_of
run-requires c =
    let e = sym c.task_of-task.ensures ∙ c.in-Pile.is in
    (subst (λ (t : Task). files_of t ≤ pile_limit) e (files_few c.args.separator c.args.line.now), c.requires)
