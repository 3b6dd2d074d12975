-- `told::answer::put_each` meets its contract. The loop's invariant: some text is left, and of any that was left at the start the first bytes were written. The measure bounds the buffers that are left.
-- Assumes nothing.
use lib.Seq.{length-take-le}
use mathlib.Core.List.{[]}
use Rattle.number.proofs.Tools.{refl, sym, subst, ◌∙◌, take}
use Rattle.streams.specs.Printed.{Printed, Prints}
use Rattle.streams.specs.Printed.SystemCalls.{nothing, behind}
use Rattle.told.proofs.RestLaws.{fewer}
use Rattle.streams.proofs.PrintLaws.{line_stored}
use Rattle.told.proofs.PrintLaws.{Along-end, Along-more}
use Rattle.told.proofs.answer.put_each.Goals as goal

pub loop-rest-init : goal.loop-rest-init
loop-rest-init c = (c.requires, λ text l. record { done = []; left = text; split = refl; printed = nothing; leads = l })

pub returns-then-is_over : goal.returns-then-is_over
returns-then-is_over c text l = Along-end _ _ _ text (sym c.is_over.ensures ∙ c.if-is_over.true) (c.loop-rest.invariant.1 text l)

pub go_on-more-requires : goal.go_on-more-requires
go_on-more-requires c = c.loop-rest.invariant.0

pub slice_bounds-write-end : goal.slice_bounds-write-end
slice_bounds-write-end c = sym (length-take-le c.go_on-more.result.length c.go_on-more.new.out c.go_on-more.ensures.inside)

pub returns-then-not-write : goal.returns-then-not-write
returns-then-not-write c =
    let bytes = take c.go_on-more.result.length c.go_on-more.new.out in
    λ text l. subst (Prints bytes) c.if-not-write.true c.write.ensures

pub loop-rest-smaller : goal.loop-rest-smaller
loop-rest-smaller c = fewer _ c.loop-rest.rest c.go_on-more.result.rest (sym c.is_over.ensures ∙ c.if-is_over.false) c.go_on-more.ensures.fewer

pub loop-rest-preserved : goal.loop-rest-preserved
loop-rest-preserved c =
    let n = c.go_on-more.result.length in
    let out = c.go_on-more.new.out in
    let g = c.go_on-more.ensures.each c.loop-rest.invariant.0.0 c.loop-rest.invariant.0.1 in
    let w = subst (Prints (take n out)) c.if-not-write.false c.write.ensures in (
      (g.rest, g.left),
      λ text s.
          let a = c.loop-rest.invariant.1 text s in
          let h = c.go_on-more.ensures.each a.left a.leads in
          let e = line_stored h.bytes out n (record { long = h.long; before = _; stored = h.stored }) c.go_on-more.ensures.inside in
          Along-more _ _ _ _ text a h.bytes h.rest h.split (behind a.done h.bytes a.printed (subst Printed e w)) h.left,
    )
