-- `salvaging::put_changed` meets its contract. Two numbers of 64 bits have at most 40 digits, so the line fits.
-- Assumes nothing.
use mathlib.Core.List.{◌++◌}
use Rattle.number.proofs.Tools.{arith}
use Rattle.ascii.specs.Ascii.{ascii}
use Rattle.decimal.specs.Digits.{digits_of}
use Rattle.decimal.proofs.Laws.{length_u64}
use Rattle.text.specs.Line.{newline}
use Rattle.text.proofs.WritingLaws.{wrote, Wrote-label, Wrote-then}
use Rattle.said.specs.Texts.{written}
use Rattle.salvaging.specs.Text.{changed_line}
use Rattle.salvaging.proofs.put_changed.Goals as goal

pub put_labelled-a-requires : goal.put_labelled-a-requires
put_labelled-a-requires c = omega (arith, length_u64 c.args.n (omega arith))

pub put_labelled-b-requires : goal.put_labelled-b-requires
put_labelled-b-requires c = let a = c.args in omega (arith, c.put_labelled-a.auto.out, length_u64 a.n (omega arith), length_u64 a.changed (omega arith))

pub put_bytes-requires : goal.put_bytes-requires
put_bytes-requires c = let a = c.args in omega (arith, c.put_labelled-a.auto.out, c.put_labelled-b.auto.out, length_u64 a.n (omega arith), length_u64 a.changed (omega arith))

pub returns : goal.returns
unfolding changed_line
returns c =
    let a = c.args in
    let l = a.text.now in
    let all = written ++ digits_of a.n in
    let some = ascii " changed " ++ digits_of a.changed in
    let one = Wrote-label l written (digits_of a.n) 0 c.put_labelled-a.ensures in
    let two = Wrote-then l all some 0 one (Wrote-label _ (ascii " changed ") (digits_of a.changed) _ c.put_labelled-b.ensures) in
    (Wrote-then l (all ++ some) newline 0 two (wrote _ newline _ c.put_bytes.ensures), (omega (arith, length_u64 a.n (omega arith), length_u64 a.changed (omega arith)), omega (arith, c.put_labelled-arg-1)))
