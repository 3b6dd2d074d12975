-- `outcomes::put_checked` meets its contract. A number of 64 bits has at most 20 digits, so the line fits.
-- Assumes nothing.
use mathlib.Core.List.{◌++◌}
use Rattle.number.proofs.Tools.{arith}
use Rattle.decimal.specs.Digits.{digits_of}
use Rattle.decimal.proofs.Laws.{length_u64}
use Rattle.text.specs.Line.{accepted, space, newline, line_of}
use Rattle.text.proofs.WritingLaws.{wrote, Wrote-label, Wrote-then}
use Rattle.outcomes.proofs.put_checked.Goals as goal

pub put_labelled-end-requires : goal.put_labelled-end-requires
put_labelled-end-requires c = omega (arith, length_u64 c.in-Ok.n (omega arith))

pub put_bytes-requires : goal.put_bytes-requires
put_bytes-requires c = omega (arith, c.put_labelled-end.auto.out, length_u64 c.in-Ok.n (omega arith))

pub returns-in-Ok : goal.returns-in-Ok
unfolding line_of
returns-in-Ok c =
    let a = c.args in
    let n = c.in-Ok.n in
    let l = a.line.now in
    let first = Wrote-label l (space ++ accepted) (digits_of n) a.at c.put_labelled-end.ensures in
    rw c.in-Ok.is
    (Wrote-then l ((space ++ accepted) ++ digits_of n) newline a.at first (wrote _ newline _ c.put_bytes.ensures), omega (arith, length_u64 n (omega arith)))

pub returns-in-Err : goal.returns-in-Err
unfolding line_of
returns-in-Err c = rw c.in-Err.is c.put_refusal.ensures
