-- `rdb_lines::pass_all` and `pass_held` meet their contracts. The measure is the number of modules left, twice, and one more for the entries of a map. The loop's
-- invariant: the lines from entry i on are left.
-- Assumes nothing.
use Rattle.std.specs.Prelude.{◌≡◌, ◌-◌}
use Rattle.number.proofs.Tools.{arith, ap, ◌∙◌, ℕ}
use Rattle.rdb_path.proofs.Reaching.{visited_inside, module_Reached}
use Rattle.rdb_list.specs.Listed.{entity_lines, held_lines}
use Rattle.rdb_line.specs.Spelt.{words_at}
use Rattle.rdb_lines.proofs.WalkLaws.{Walked-as, Going-start, going_over, going_stop, going_kept}
use Rattle.rdb_lines.proofs.MapLaws.{Ready-longer, entities_over, entities_turn, entity_Visited, held_zero, held_other, held_module, module_held}
use Rattle.rdb_lines.proofs.+pass_all_pass_held.Goals as goal

pub pass_all-loop-i-init : goal.pass_all-loop-i-init
pass_all-loop-i-init t c =
    let a = c.args in
    let z : a.n - 0 ≡ a.n = omega arith in
    (omega arith, c.requires.0.fit, Going-start (ap (λ (k : ℕ). entity_lines (held_lines a.left a.file.now) a.file.now (words_at a.file.now a.places a.depth) a.at k 0) z))

pub pass_all-overflow_add-from : goal.pass_all-overflow_add-from
pass_all-overflow_add-from t c = omega (arith, c.requires.0.low)

pub pass_all-shape_of-out-then-from-q : goal.pass_all-shape_of-out-then-from-q
pass_all-shape_of-out-then-from-q t c = going_kept c.loop-i.invariant.2

pub pass_all-returns-then-from-q : goal.pass_all-returns-then-from-q
pass_all-returns-then-from-q t c = (going_stop c.loop-i.invariant.2 (omega arith), c.loop-i.invariant.1)

pub pass_all-overflow_mul-e : goal.pass_all-overflow_mul-e
pass_all-overflow_mul-e t c = omega (arith, c.requires.2.1.holds.keyed.room c.loop-i.i (omega arith), c.requires.0.small)

pub pass_all-overflow_add-e : goal.pass_all-overflow_add-e
pass_all-overflow_add-e t c = omega (arith, c.requires.2.1.holds.keyed.room c.loop-i.i (omega arith), c.requires.0.small)

pub pass_all-overflow_add-e-in-loop-i : goal.pass_all-overflow_add-e-in-loop-i
pass_all-overflow_add-e-in-loop-i t c = omega (arith, c.requires.2.1.holds.keyed.room c.loop-i.i (omega arith), c.requires.0.small)

pub pass_all-le32_at-requires : goal.pass_all-le32_at-requires
pass_all-le32_at-requires t c = omega (arith, c.requires.2.1.holds.keyed.room c.loop-i.i (omega arith), c.requires.0.small)

pub pass_all-pointer-o-requires : goal.pass_all-pointer-o-requires
pass_all-pointer-o-requires t c = tt

pub pass_all-longer-path-requires : goal.pass_all-longer-path-requires
pass_all-longer-path-requires t c = omega (arith, c.requires.1)

pub pass_all-overflow_add-depth : goal.pass_all-overflow_add-depth
pass_all-overflow_add-depth t c = omega (arith, c.requires.1)

pub pass_all-pass_line-line-requires : goal.pass_all-pass_line-line-requires
pass_all-pass_line-line-requires t c =
    let a = c.args in
    let w = c.requires in
    let e = c.pointer-o.ensures ∙ c.le32_at.ensures in
    (Ready-longer a.file.now a.places a.depth a.at c.loop-i.i c.longer-path.ensures w.0 (omega (arith, w.1)) w.2.1.holds.keyed (omega arith) c.loop-i.invariant.1, visited_inside w.2.0 a.file.now _ (entity_Visited w.2.0 a.file.now a.at a.n c.loop-i.i w.2.1 (omega arith) e), omega arith)

pub pass_all-overflow_add-depth-in-loop-i : goal.pass_all-overflow_add-depth-in-loop-i
pass_all-overflow_add-depth-in-loop-i t c = omega (arith, c.requires.1)

pub pass_all-pass_held-q-requires : goal.pass_all-pass_held-q-requires
pass_all-pass_held-q-requires t c =
    let a = c.args in
    let w = c.requires in
    let e = c.pointer-o.ensures ∙ c.le32_at.ensures in
    (omega arith, (Ready-longer a.file.now a.places a.depth a.at c.loop-i.i c.longer-path.ensures w.0 (omega (arith, w.1)) w.2.1.holds.keyed c.loop-i-test.true c.pass_line-line.ensures.1, omega (arith, w.1), (w.2.0, entity_Visited w.2.0 a.file.now a.at a.n c.loop-i.i w.2.1 c.loop-i-test.true e)))

pub pass_all-loop-i-preserved : goal.pass_all-loop-i-preserved
pass_all-loop-i-preserved t c =
    let a = c.args in
    let w = c.requires in
    let e = c.pointer-o.ensures ∙ c.le32_at.ensures in
    (omega (arith, c.loop-i-test.true), c.pass_held-q.ensures.1, entities_turn a.file.now a.places a.depth a.at a.n c.loop-i.i w.0.spelt (omega (arith, w.1)) c.loop-i-test.true c.longer-path.ensures e a.left c.loop-i.invariant.2 c.pass_line-line.ensures.0 c.pass_held-q.ensures.0)

pub pass_all-shape_of-out : goal.pass_all-shape_of-out
pass_all-shape_of-out t c = going_kept c.loop-i.invariant.2

pub pass_all-returns : goal.pass_all-returns
pass_all-returns t c =
    let a = c.args in
    (going_over c.loop-i.invariant.2 (entities_over a.file.now (words_at a.file.now a.places a.depth) a.at a.n c.loop-i.i (held_lines a.left a.file.now) (omega arith)), c.loop-i.invariant.1)

pub pass_held-pass_group-requires : goal.pass_held-pass_group-requires
pass_held-pass_group-requires t c = (c.requires.0, omega (arith, c.requires.1), c.requires.2)

pub pass_held-returns-then-left-eq0 : goal.pass_held-returns-then-left-eq0
pass_held-returns-then-left-eq0 t c = (Walked-as (held_zero c.args.file.now _ c.args.o c.args.left (omega arith)) c.pass_group.ensures.0, c.pass_group.ensures.1)

pub pass_held-bounds-file-o : goal.pass_held-bounds-file-o
pass_held-bounds-file-o t c = omega (arith, visited_inside _ _ _ c.requires.2.1)

pub pass_held-pass_group-requires-then-file-o-ne-MODULE : goal.pass_held-pass_group-requires-then-file-o-ne-MODULE
pass_held-pass_group-requires-then-file-o-ne-MODULE t c = (c.requires.0, omega (arith, c.requires.1), c.requires.2)

pub pass_held-returns-then-file-o-ne-MODULE : goal.pass_held-returns-then-file-o-ne-MODULE
pass_held-returns-then-file-o-ne-MODULE t c = (Walked-as (held_other c.args.file.now _ c.args.o c.args.left (λ e. omega arith)) c.pass_group-then-file-o-ne-MODULE.ensures.0, c.pass_group-then-file-o-ne-MODULE.ensures.1)

pub pass_held-overflow_add-o : goal.pass_held-overflow_add-o
pass_held-overflow_add-o t c = omega (arith, (module_Reached _ _ _ c.requires.2.1 (omega arith)).0)

pub pass_held-le32_at-requires : goal.pass_held-le32_at-requires
pass_held-le32_at-requires t c = omega (arith, (module_Reached _ _ _ c.requires.2.1 (omega arith)).0)

pub pass_held-pointer-n-requires : goal.pass_held-pointer-n-requires
pass_held-pointer-n-requires t c = tt

pub pass_held-overflow_add-o-2 : goal.pass_held-overflow_add-o-2
pass_held-overflow_add-o-2 t c = omega (arith, (module_Reached _ _ _ c.requires.2.1 (omega arith)).0)

pub pass_held-pass_all-requires : goal.pass_held-pass_all-requires
pass_held-pass_all-requires t c =
    let a = c.args in
    let w = c.requires in
    (omega arith, (w.0, omega (arith, w.1), (w.2.0, module_held w.2.0 a.file.now a.o w.2.1 (c.pointer-n.ensures ∙ c.le32_at.ensures) (omega arith))))

pub pass_held-returns : goal.pass_held-returns
pass_held-returns t c = (Walked-as (held_module c.args.file.now _ c.args.o c.args.left (λ z. omega arith) (omega arith) (c.pointer-n.ensures ∙ c.le32_at.ensures)) c.pass_all.ensures.0, c.pass_all.ensures.1)
