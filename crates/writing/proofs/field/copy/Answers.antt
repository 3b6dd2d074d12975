-- `writing::field::copy` meets its contract.
-- Assumes nothing.
use lib.Seq.{sets}
use Rattle.std.specs.Prelude.{◌+◌}
use Rattle.number.proofs.Tools.{ap, ◌∙◌, arith, length}
use Rattle.number.proofs.Parts.{length-part}
use Rattle.writing.proofs.Copies as laws
use Rattle.writing.proofs.field.copy.Goals as goal

pub returns : goal.returns
returns c =
    let a = c.args in
    let e = c.put_bytes.ensures in
    let q = laws.lent_part a.s.now a.from a.n (omega arith) in
    (e.0 ∙ omega (arith, ap length q, length-part a.s.now a.from (a.from + a.n) (omega arith)), e.1 ∙ ap (sets a.out.now 0) q)
