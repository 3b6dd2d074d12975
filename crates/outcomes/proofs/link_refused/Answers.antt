-- `outcomes::link_refused` meets its contract.
-- Assumes nothing.
use Prim.Native.Nat.{ℕ}
use mathlib.Core.List.{◌++◌}
use Rattle.number.proofs.Tools.{refl, ap, arith}
use Rattle.decimal.specs.Digits.{digits_of}
use Rattle.decimal.proofs.Laws.{length_byte}
use Rattle.text.specs.Line.{refused, space}
use Rattle.text.proofs.WritingLaws.{Wrote-label, Wrote-then, Wrote-as}
use Rattle.outcomes.specs.Lines.{linked_text, say_linked, linked_why}
use Rattle.said.specs.Texts.{placed}
use Rattle.said.proofs.SayingLaws.{says}
use Rattle.outcomes.proofs.link_refused.Goals as goal

pub put_labelled-at-requires : goal.put_labelled-at-requires
put_labelled-at-requires c = omega (arith, length_byte c.which_number.result (omega arith))

pub put_refusal-length-requires : goal.put_refusal-length-requires
put_refusal-length-requires c = omega (arith, length_byte c.which_number.result (omega arith))

pub returns : goal.returns
unfolding linked_text linked_why say_linked
returns c =
    let x = c.args.x in
    let l = c.args.line.now in
    let first = Wrote-label l refused (digits_of c.which_number.result) 0 c.put_labelled-at.ensures in
    let both = Wrote-then l (refused ++ digits_of c.which_number.result) (placed space x.why) 0 first c.put_refusal-length.ensures.0 in
    says _ _ (Wrote-as (ap (λ (k : ℕ). (refused ++ digits_of k) ++ placed space x.why) c.which_number.ensures.0) both) refl c.put_refusal-length.ensures.1
