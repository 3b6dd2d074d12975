use Rattle.std.proofs.Common.{arith, sym, length, take, ◌-◌}
use Rattle.number.proofs.Tools.{subst}
use lib.Seq.{length-take-le}
use Rattle.input.specs.File.{number_of, StandsBehind}
use Rattle.input.specs.File.SystemCalls.{moved, ended, failed}
use Rattle.input.proofs.FileLaws.{came_behind}
use Rattle.input.proofs.read_some.Goals as goal

pub returns-in-Err-clause-bytes : goal.returns-in-Err-clause-bytes
returns-in-Err-clause-bytes c = λ name s. failed name _

pub returns-in-Ok-clause-bytes : goal.returns-in-Ok-clause-bytes
returns-in-Ok-clause-bytes c = λ name s.
    let a = c.args in
    let fd = number_of a.source.now in
    let e = length-take-le a.from a.buf.now (omega arith) in
    let t = subst (StandsBehind name fd) (sym (came_behind (take a.from a.buf.now) _ a.from c.in-Ok.got e)) (moved name fd (take a.from a.buf.now) _ s) in
    (t, λ e. ended name fd _ (length a.buf.now - a.from) c.in-Ok.got (omega arith) (omega arith) t)
