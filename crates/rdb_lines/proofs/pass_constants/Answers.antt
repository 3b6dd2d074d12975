-- `rdb_lines::pass_constants` meets its contract. The loop's invariant: the lines from entry i on are left.
-- Assumes nothing.
use Rattle.std.specs.Prelude.{◌≡◌, ◌-◌}
use Rattle.number.proofs.Tools.{ap, ◌∙◌, ℕ, arith}
use Rattle.rdb_list.specs.Listed.{constant_lines}
use Rattle.rdb_line.specs.Spelt.{words_at}
use Rattle.rdb_lines.proofs.WalkLaws.{Going-start, going_over, going_stop, going_kept}
use Rattle.rdb_lines.proofs.MapLaws.{Ready-longer, constants_over, constants_turn, constant-Stored}
use Rattle.rdb_lines.proofs.pass_constants.Goals as goal

pub loop-i-init : goal.loop-i-init
loop-i-init c =
    let a = c.args in
    let z : a.n - 0 ≡ a.n = omega arith in
    (omega arith, c.requires.0.fit, Going-start (ap (λ (k : ℕ). constant_lines a.file.now (words_at a.file.now a.places a.depth) a.at k 0) z))

pub overflow_add-from : goal.overflow_add-from
overflow_add-from c = omega (arith, c.requires.0.low)

pub shape_of-out-then-from-q : goal.shape_of-out-then-from-q
shape_of-out-then-from-q c = going_kept c.loop-i.invariant.2

pub returns-then-from-q : goal.returns-then-from-q
returns-then-from-q c = (going_stop c.loop-i.invariant.2 (omega arith), c.loop-i.invariant.1)

pub overflow_mul-e : goal.overflow_mul-e
overflow_mul-e c = omega (arith, c.requires.2.keyed.room c.loop-i.i (omega arith), c.requires.0.small)

pub overflow_add-e : goal.overflow_add-e
overflow_add-e c = omega (arith, c.requires.2.keyed.room c.loop-i.i (omega arith), c.requires.0.small)

pub overflow_add-e-in-loop-i : goal.overflow_add-e-in-loop-i
overflow_add-e-in-loop-i c = omega (arith, c.requires.2.keyed.room c.loop-i.i (omega arith), c.requires.0.small)

pub le32_at-requires : goal.le32_at-requires
le32_at-requires c = omega (arith, c.requires.2.keyed.room c.loop-i.i (omega arith), c.requires.0.small)

pub longer-path-requires : goal.longer-path-requires
longer-path-requires c = omega (arith, c.requires.1)

pub overflow_add-depth : goal.overflow_add-depth
overflow_add-depth c = omega (arith, c.requires.1)

pub pass_line-q-requires : goal.pass_line-q-requires
pass_line-q-requires c =
    let a = c.args in
    let e = c.pointer-o.ensures ∙ c.le32_at.ensures in
    (Ready-longer a.file.now a.places a.depth a.at c.loop-i.i c.longer-path.ensures c.requires.0 c.requires.1 c.requires.2.keyed (omega arith) c.loop-i.invariant.1, constant-Stored a.file.now a.at a.n c.loop-i.i c.requires.2 (omega arith) e, omega arith)

pub loop-i-preserved : goal.loop-i-preserved
loop-i-preserved c =
    let a = c.args in
    let e = c.pointer-o.ensures ∙ c.le32_at.ensures in
    let w = c.pass_line-q.ensures in
    (omega arith, w.1, constants_turn a.file.now a.places a.depth a.at a.n c.loop-i.i c.requires.0.spelt c.requires.1 (omega arith) c.longer-path.ensures e c.loop-i.invariant.2 w.0)

pub shape_of-out : goal.shape_of-out
shape_of-out c = going_kept c.loop-i.invariant.2

pub returns : goal.returns
returns c =
    let a = c.args in
    (going_over c.loop-i.invariant.2 (constants_over a.file.now (words_at a.file.now a.places a.depth) a.at a.n c.loop-i.i (omega arith)), c.loop-i.invariant.1)
