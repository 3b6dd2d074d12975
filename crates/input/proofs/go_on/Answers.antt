use Rattle.std.proofs.Common.{sym}
use Rattle.number.proofs.Tools.{subst}
use Rattle.input.specs.File.{number_of, StandsBehind}
use Rattle.input.proofs.FileLaws.{put_first, read_first}
use Rattle.input.proofs.go_on.Goals as goal

pub returns : goal.returns
returns c = λ name s.
    let p = c.put_bytes-n in
    let fd = number_of c.args.source.now in
    let e = put_first c.args.buf.now c.args.front.now p.new.out p.result c.requires p.ensures.0 p.ensures.1 in
    read_first name fd p.result c.read_all.result c.read_all.new.buf c.read_all.ensures.within (c.read_all.ensures.bytes name (subst (StandsBehind name fd) (sym e) s))
