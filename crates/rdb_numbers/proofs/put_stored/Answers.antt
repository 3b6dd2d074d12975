-- `rdb_numbers::put_stored` meets its contract.
-- Assumes nothing.
use lib.ListN.{length-set}
use Rattle.number.proofs.Tools.{arith, refl}
use Rattle.rdb.proofs.AnswerLaws.{stored_at}
use Rattle.rdb_numbers.proofs.NumberLaws.{stored_numbers}
use Rattle.rdb_numbers.proofs.put_stored.Goals as goal

pub bounds-file-o : goal.bounds-file-o
bounds-file-o c = (stored_at _ _ c.requires.1).here

pub overflow_add-o : goal.overflow_add-o
overflow_add-o c = omega (arith, (stored_at _ _ c.requires.1).here)

pub stored_at-bits-requires : goal.stored_at-bits-requires
stored_at-bits-requires c = (stored_at _ _ c.requires.1).room

pub bounds-answer-1 : goal.bounds-answer-1
bounds-answer-1 c = simp length-set (omega arith)

pub bounds-answer-2 : goal.bounds-answer-2
bounds-answer-2 c = simp length-set (omega arith)

pub returns : goal.returns
returns c = rw (← stored_numbers _ _ c.requires.1 refl c.stored_at-bits.ensures) refl
