-- `xpt::sessions::ask_one` meets its contract: the words lie within the input.
-- Assumes nothing.
use lib.Seq.{length-take-le}
use Rattle.number.proofs.Tools.{sym, arith, take}
use Rattle.tasks.specs.Tasks.{task_of}
use Rattle.asks.specs.Asked.{is_asked}
use Rattle.asks.proofs.AskLaws.{Took-here, Took-elsewhere}
use Rattle.xpt.proofs.sessions.ask_one.Goals as goal

pub slice_bounds-run-end : goal.slice_bounds-run-end
slice_bounds-run-end c = sym (length-take-le c.args.n c.args.input.now (omega arith))

pub run-requires : goal.run-requires
run-requires c = rw (length-take-le c.args.n c.args.input.now (omega arith)) (omega arith)

pub returns-in-Some : goal.returns-in-Some
returns-in-Some c =
    let a = c.args in
    let line = take a.n a.input.now in
    Took-here line (is_asked (task_of 0 line)) c.run.result c.in-Some.told c.in-Some.is c.run.ensures

pub returns-in-None : goal.returns-in-None
returns-in-None c =
    let a = c.args in
    let line = take a.n a.input.now in
    Took-elsewhere line (is_asked (task_of 0 line)) c.run.result c.in-None.is c.run.ensures
