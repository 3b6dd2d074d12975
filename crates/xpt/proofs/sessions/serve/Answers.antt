-- `xpt::sessions::serve` meets its contract: what is a question was answered, and what was not is none.
-- Assumes nothing.
use Rattle.number.proofs.Tools.{sym, subst, ◌∙◌, take}
use Rattle.number.proofs.Scans.{clash}
use Rattle.tasks.specs.Tasks.{task_of}
use Rattle.asks.specs.Asked.{is_asked, TookIf}
use Rattle.xpt.proofs.sessions.serve.Goals as goal

pub returns-then-is_answered : goal.returns-then-is_answered
returns-then-is_answered c =
    let a = c.args in
    λ e h. subst (TookIf (take a.n a.input.now)) c.if-is_answered.true (c.is_answered.ensures e).1

pub serve_all-requires : goal.serve_all-requires
serve_all-requires c = (c.requires, λ e. sym (c.is_answered.ensures e).0 ∙ c.if-is_answered.false)

pub returns : goal.returns
returns c =
    let a = c.args in
    λ e h. clash (is_asked (task_of 0 (take a.n a.input.now))) h (sym (c.is_answered.ensures e).0 ∙ c.if-is_answered.false)
