-- `rdb_told::put_text` meets its contract.
-- Assumes nothing.
use Rattle.std.specs.Prelude.{◌+◌, ◌-◌}
use Rattle.number.proofs.Tools.{arith, take, drop}
use Rattle.rdb_told.proofs.ToldLaws.{least_high, clip_fits, lent_few, clipped, text_Passed, word_far}
use Rattle.rdb_told.proofs.put_text.Goals as goal

pub put_number-next-requires : goal.put_number-next-requires
put_number-next-requires c = (omega arith, omega arith)

pub overflow_sub-n : goal.overflow_sub-n
overflow_sub-n c = rw c.least-a.ensures (least_high _ _)

pub overflow_add-b : goal.overflow_add-b
overflow_add-b c = omega (arith, clip_fits _ _ _ _ _ c.least-a.ensures c.least.ensures)

pub slice_bounds-put_word-end : goal.slice_bounds-put_word-end
slice_bounds-put_word-end c = omega (arith, clip_fits _ _ _ _ _ c.least-a.ensures c.least.ensures)

pub put_word-requires : goal.put_word-requires
put_word-requires c =
    let a = c.least-a.result in
    let n = c.least.result in
    (lent_few (a + n - a) a c.args.file.now (omega arith), omega arith)

pub returns : goal.returns
returns c =
    let x = c.args in
    let a = c.least-a.result in
    let n = c.least.result in
    let w = clipped x.file.now x.t.at x.t.len a n c.least-a.ensures c.least.ensures in
    let word = c.put_word.ensures in
    let far = word_far (take (a + n - a) (drop a x.file.now)) (lent_few (a + n - a) a x.file.now (omega arith)) word in
    (text_Passed x.label.now x.file.now x.t _ w c.put_number-space.ensures.0 c.put_number-next.ensures.0 word, omega arith)
