-- `salvaging::put_line` meets its contract. A number of 64 bits has at most 20 digits.
-- Assumes nothing.
use mathlib.Core.List.{[], ◌++◌}
use Rattle.number.proofs.Tools.{arith}
use Rattle.decimal.specs.Digits.{digits_of}
use Rattle.decimal.proofs.Laws.{length_u64}
use Rattle.text.specs.Line.{space, newline}
use Rattle.text.proofs.WritingLaws.{wrote, Wrote-label, Wrote-then}
use Rattle.salvaging.specs.Text.{numbers_line}
use Rattle.salvaging.proofs.put_line.Goals as goal

pub put_labelled-a-requires : goal.put_labelled-a-requires
put_labelled-a-requires c = let a = c.args in omega (arith, length_u64 a.index (omega arith))

pub put_labelled-b-requires : goal.put_labelled-b-requires
put_labelled-b-requires c = let a = c.args in omega (arith, c.put_labelled-a.auto.out, length_u64 a.index (omega arith), length_u64 a.number (omega arith))

pub put_labelled-c-requires : goal.put_labelled-c-requires
put_labelled-c-requires c =
    let a = c.args in
    omega (arith, c.put_labelled-a.auto.out, c.put_labelled-b.auto.out, length_u64 a.index (omega arith), length_u64 a.number (omega arith), length_u64 a.place (omega arith))

pub put_bytes-requires : goal.put_bytes-requires
put_bytes-requires c =
    let a = c.args in
    omega (arith, c.put_labelled-a.auto.out, c.put_labelled-b.auto.out, c.put_labelled-c.auto.out, length_u64 a.index (omega arith), length_u64 a.number (omega arith), length_u64 a.place (omega arith))

pub returns : goal.returns
unfolding numbers_line
returns c =
    let a = c.args in
    let l = a.text.now in
    let number = space ++ digits_of a.number in
    let place = space ++ digits_of a.place in
    let one = Wrote-label l [] (digits_of a.index) a.at c.put_labelled-a.ensures in
    let two = Wrote-then l (digits_of a.index) number a.at one (Wrote-label _ space (digits_of a.number) _ c.put_labelled-b.ensures) in
    let three = Wrote-then l (digits_of a.index ++ number) place a.at two (Wrote-label _ space (digits_of a.place) _ c.put_labelled-c.ensures) in
    (Wrote-then l ((digits_of a.index ++ number) ++ place) newline a.at three (wrote _ newline _ c.put_bytes.ensures), omega (arith, length_u64 a.index (omega arith), length_u64 a.number (omega arith), length_u64 a.place (omega arith)))
