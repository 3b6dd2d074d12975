-- `writing::word::name_size` meets its contract.
-- Assumes nothing.
use Rattle.std.specs.Prelude.{◌-◌}
use Rattle.number.proofs.Tools.{arith}
use Rattle.key.proofs.Ends.{word_from}
use Rattle.writing.proofs.Words as laws
use Rattle.writing.proofs.word.name_size.Goals as goal

pub overflow_sub-result : goal.overflow_sub-result
overflow_sub-result c =
    let a = c.args in
    omega (arith, word_from a.pool.now (a.q - 1))

pub returns : goal.returns
returns c =
    let a = c.args in
    rw (laws.length_name_at a.pool.now a.q) (omega arith)
