-- `piled::refused` meets its contract.
-- Assumes nothing.
use mathlib.Core.List.{◌++◌}
use Rattle.number.proofs.Tools.{ℕ, refl, ap, arith}
use Rattle.ascii.specs.Ascii.{ascii}
use Rattle.decimal.specs.Digits.{digits_of}
use Rattle.decimal.proofs.Laws.{length_byte, length_u64}
use Rattle.text.specs.Line.{refused, space, newline}
use Rattle.text.proofs.WritingLaws.{wrote, Wrote-label, Wrote-then, Wrote-as}
use Rattle.said.proofs.SayingLaws.{says}
use Rattle.piled.specs.Lines.{refused_text, say_piled}
use Rattle.piled.proofs.refused.Goals as goal

pub put_labelled-a-requires : goal.put_labelled-a-requires
put_labelled-a-requires c = omega (arith, length_byte c.which_number.result (omega arith))

pub put_labelled-b-requires : goal.put_labelled-b-requires
put_labelled-b-requires c =
    let x = c.args.x in
    omega (arith, c.put_labelled-a.auto.out, length_byte c.which_number.result (omega arith), length_byte x.why.why.no (omega arith))

pub put_labelled-c-requires : goal.put_labelled-c-requires
put_labelled-c-requires c =
    let x = c.args.x in
    omega (arith, c.put_labelled-a.auto.out, c.put_labelled-b.auto.out, length_byte c.which_number.result (omega arith), length_byte x.why.why.no (omega arith), length_u64 x.why.why.place (omega arith))

pub put_labelled-d-requires : goal.put_labelled-d-requires
put_labelled-d-requires c =
    let x = c.args.x in
    omega (
      arith,
      c.put_labelled-a.auto.out,
      c.put_labelled-b.auto.out,
      c.put_labelled-c.auto.out,
      length_byte c.which_number.result (omega arith),
      length_byte x.why.why.no (omega arith),
      length_u64 x.why.why.place (omega arith),
      length_u64 x.step (omega arith),
    )

pub put_bytes-length-requires : goal.put_bytes-length-requires
put_bytes-length-requires c =
    let x = c.args.x in
    omega (
      arith,
      c.put_labelled-a.auto.out,
      c.put_labelled-b.auto.out,
      c.put_labelled-c.auto.out,
      c.put_labelled-d.auto.out,
      length_byte c.which_number.result (omega arith),
      length_byte x.why.why.no (omega arith),
      length_u64 x.why.why.place (omega arith),
      length_u64 x.step (omega arith),
    )

pub returns : goal.returns
unfolding say_piled refused_text
returns c =
    let x = c.args.x in
    let l = c.args.line.now in
    let which = refused ++ digits_of c.which_number.result in
    let number = space ++ digits_of x.why.why.no in
    let place = space ++ digits_of x.why.why.place in
    let step = ascii " step " ++ digits_of x.step in
    let one = Wrote-label l refused (digits_of c.which_number.result) 0 c.put_labelled-a.ensures in
    let two = Wrote-then l which number 0 one (Wrote-label _ space (digits_of x.why.why.no) _ c.put_labelled-b.ensures) in
    let three = Wrote-then l (which ++ number) place 0 two (Wrote-label _ space (digits_of x.why.why.place) _ c.put_labelled-c.ensures) in
    let four = Wrote-then l ((which ++ number) ++ place) step 0 three (Wrote-label _ (ascii " step ") (digits_of x.step) _ c.put_labelled-d.ensures) in
    let five = Wrote-then l (((which ++ number) ++ place) ++ step) newline 0 four (wrote _ newline _ c.put_bytes-length.ensures) in
    says _ _ (Wrote-as (ap (λ (k : ℕ). ((((refused ++ digits_of k) ++ number) ++ place) ++ step) ++ newline) c.which_number.ensures.0) five) refl
    (omega (arith, length_byte c.which_number.result (omega arith), length_byte x.why.why.no (omega arith), length_u64 x.why.why.place (omega arith), length_u64 x.step (omega arith)))
