-- `outcomes::adopted` meets its contract. A number of 64 bits has at most 20 digits, so the line fits.
-- Assumes nothing.
use mathlib.Core.List.{◌++◌}
use Rattle.number.proofs.Tools.{refl, arith}
use Rattle.decimal.specs.Digits.{digits_of}
use Rattle.decimal.proofs.Laws.{length_u64}
use Rattle.text.specs.Line.{space, line_of}
use Rattle.text.proofs.WritingLaws.{Wrote-label, Wrote-then}
use Rattle.said.proofs.SayingLaws.{says}
use Rattle.said.specs.Texts.{written}
use Rattle.outcomes.specs.Lines.{adopted_text}
use Rattle.outcomes.proofs.adopted.Goals as goal

pub put_labelled-at-requires : goal.put_labelled-at-requires
put_labelled-at-requires c = omega (arith, length_u64 c.args.n (omega arith))

pub put_checked-length-requires : goal.put_checked-length-requires
put_checked-length-requires c = omega (arith, length_u64 c.args.n (omega arith))

pub returns : goal.returns
unfolding adopted_text
returns c =
    let a = c.args in
    let l = a.line.now in
    let first = Wrote-label l written (digits_of a.n) 0 c.put_labelled-at.ensures in
    says _ _ (Wrote-then l (written ++ digits_of a.n) (space ++ line_of a.v) 0 first c.put_checked-length.ensures.0) refl c.put_checked-length.ensures.1
