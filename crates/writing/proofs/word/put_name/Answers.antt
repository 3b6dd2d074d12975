-- `writing::word::put_name` meets its contract.
-- Assumes nothing.
use lib.Seq.{sets}
use Rattle.std.specs.Prelude.{◌≡◌, ◌+◌, ◌-◌}
use Rattle.number.proofs.Tools.{arith}
use Rattle.number.specs.Part.{part}
use Rattle.key.specs.Word.{word_end}
use Rattle.key.proofs.Ends.{word_from}
use Rattle.writing.proofs.Words as laws
use Rattle.writing.proofs.word.put_name.Goals as goal

pub word_end-requires : goal.word_end-requires
word_end-requires c =
    let k = c.requires in
    (k.0.within, k.1.0)

pub overflow_sub-word_end : goal.overflow_sub-word_end
overflow_sub-word_end c =
    let a = c.args in
    omega (arith, word_from a.pool.now (a.q - 1))

pub copy-n-requires : goal.copy-n-requires
copy-n-requires c =
    let a = c.args in
    (omega (arith, word_from a.pool.now (a.q - 1)), omega (arith, laws.length_name_at a.pool.now a.q))

pub bounds-out-n : goal.bounds-out-n
bounds-out-n c =
    let a = c.args in
    omega (arith, laws.length_name_at a.pool.now a.q)

pub returns : goal.returns
returns c =
    let a = c.args in
    let s = a.pool.now in
    let from = a.q - 1 in
    let z = c.word_end.ensures in
    let p : c.copy-n.new.out ≡ sets a.out.now 0 (part s from (from + (word_end s from - from))) = rw (← z) c.copy-n.ensures.1 in
    (omega (arith, laws.length_name_at s a.q), laws.name_put s a.q c.requires.0 a.out.now _ _ (omega arith) p)
