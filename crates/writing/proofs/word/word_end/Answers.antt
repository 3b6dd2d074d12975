-- `writing::word::word_end` meets its contract.
-- Assumes nothing.
use Rattle.number.proofs.Tools.{arith}
use Rattle.writing.proofs.Words as laws
use Rattle.writing.proofs.word.word_end.Goals as goal

pub loop-i-init : goal.loop-i-init
loop-i-init c = laws.walk_start _ _ (omega arith)

pub bounds-pool-i : goal.bounds-pool-i
bounds-pool-i c = laws.walk_inside _ _ _ c.loop-i.invariant

pub overflow_add-i : goal.overflow_add-i
overflow_add-i c = omega (arith, laws.walk_inside _ _ _ c.loop-i.invariant)

pub loop-i-smaller : goal.loop-i-smaller
loop-i-smaller c = omega (arith, laws.walk_inside _ _ _ c.loop-i.invariant)

pub loop-i-preserved : goal.loop-i-preserved
loop-i-preserved c = laws.Walk-next _ _ _ c.loop-i.invariant (λ e. omega arith)

pub returns : goal.returns
returns c = laws.walk_done _ _ _ c.loop-i.invariant (omega arith)
