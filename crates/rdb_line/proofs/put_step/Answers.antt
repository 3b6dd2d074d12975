-- `rdb_line::put_step` meets its contract.
-- Assumes nothing.
use Rattle.number.proofs.Tools.{◌∙◌, arith}
use Rattle.rdb_map.specs.Map.{key_at}
use Rattle.rdb_line.proofs.LineLaws.{key_ended, key_word, Passed-as, step_first, step_more}
use Rattle.rdb_line.proofs.put_step.Goals as goal

pub put_word-requires : goal.put_word-requires
put_word-requires c = (omega arith, key_ended c.args.file.now c.args.p (c.pointer-q.ensures ∙ c.le32_at.ensures) c.requires.2, omega arith)

pub returns-then-i-eq0 : goal.returns-then-i-eq0
returns-then-i-eq0 c =
    let a = c.args in
    let s = a.file.now in
    let e = c.pointer-q.ensures ∙ c.le32_at.ensures in
    (step_first a.i (key_at s a.p) (omega arith) (Passed-as (key_word s a.p e) c.put_word.ensures.0), omega arith)

pub put_word-requires-2 : goal.put_word-requires-2
put_word-requires-2 c = (omega arith, key_ended c.args.file.now c.args.p (c.pointer-q.ensures ∙ c.le32_at.ensures) c.requires.2, omega (arith, c.put_bytes-next.ensures.next))

pub returns : goal.returns
returns c =
    let a = c.args in
    let s = a.file.now in
    let e = c.pointer-q.ensures ∙ c.le32_at.ensures in
    (step_more a.i (key_at s a.p) (λ z. omega arith) c.put_bytes-next.ensures (Passed-as (key_word s a.p e) c.put_word-2.ensures.0), omega (arith, c.put_bytes-next.ensures.next))
