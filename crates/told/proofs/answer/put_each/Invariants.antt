-- `told::answer::put_each` meets its contract. The loop's invariant: some text is left, and of any that was left at the start the first bytes were written. The measure bounds the buffers that are left.
-- Assumes nothing.
use mathlib.Core.List.{List}
use Rattle.number.proofs.Tools.{ℕ}
use Rattle.streamed.specs.Stream.{buffers, LeftOf}
use Rattle.told.proofs.PrintLaws.{Along}
use Rattle.told.proofs.answer.put_each.Given as goal

abbrev pub invariant-loop-rest : goal.invariant-loop-rest
invariant-loop-rest l = ((text : List ℕ) × LeftOf l.in_batch l.file l.rest text) × ((text : List ℕ) → LeftOf l.in_batch l.file l.initial.rest text → Along l.in_batch l.file l.rest text)

abbrev pub decreases-loop-rest : goal.decreases-loop-rest
decreases-loop-rest l = buffers l.file l.rest
