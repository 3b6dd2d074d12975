-- `rdb_line::put_word` meets its contract. The loop's invariant: what is left of the word goes on from here. The measure is what is left of the file.
-- Assumes nothing.
use Rattle.std.specs.Prelude.{◌+◌}
use Rattle.number.proofs.Tools.{arith, get_or}
use Rattle.key.specs.Word.{word_at}
use Rattle.key.proofs.Ends.{word_from, end_next}
use Rattle.window.specs.Shown.{byte_shown, bytes_shown}
use Rattle.window.proofs.WindowLaws.{Going-start, Going-on, going_room, going_over}
use Rattle.rdb_line.proofs.LineLaws.{word_over, word_more, word_short}
use Rattle.rdb_line.proofs.put_word.Goals as goal

pub loop-i-init : goal.loop-i-init
loop-i-init c = (omega (arith, word_from c.args.file.now c.args.q), c.requires.1, Going-start)

pub put_shown_byte-at-requires : goal.put_shown_byte-at-requires
put_shown_byte-at-requires c =
    let s = c.args.file.now in
    (omega arith, going_room c.loop-i.invariant.2 (byte_shown (get_or s c.loop-i.i 0)) (bytes_shown (word_at s (c.loop-i.i + 1))) (word_more s c.loop-i.i c.loop-i.invariant.1 c.loop-i-test.true) (omega (arith, word_short s c.args.q c.requires.1 c.requires.0)))

pub loop-i-preserved : goal.loop-i-preserved
loop-i-preserved c =
    let z = c.loop-i-test.true in
    let s = c.args.file.now in
    let e = end_next s c.loop-i.i c.loop-i.invariant.0 z in
    (omega (arith, e, word_from s (c.loop-i.i + 1)), omega (arith, e), Going-on c.loop-i.invariant.2 (byte_shown (get_or s c.loop-i.i 0)) (bytes_shown (word_at s (c.loop-i.i + 1))) (word_more s c.loop-i.i c.loop-i.invariant.1 z) c.put_shown_byte-at.ensures)

pub shape_of-out : goal.shape_of-out
shape_of-out c = c.loop-i.invariant.2.kept

pub returns : goal.returns
returns c =
    let s = c.args.file.now in
    let g = going_over c.loop-i.invariant.2 (word_over s c.loop-i.i c.loop-i.invariant.1 c.loop-i-test.false) in
    (g, omega (arith, g.next, word_short s c.args.q c.requires.1 c.requires.0))
