-- `rdb_line::put_path` meets its contract. The loop's invariant: the first i words were passed. The measure is how many are left.
-- Assumes nothing.
use Rattle.std.specs.Prelude.{◌≡◌}
use Rattle.number.proofs.Tools.{ap, ℕ, arith}
use Rattle.window.proofs.WindowLaws.{Passed-then}
use Rattle.rdb_line.specs.Text.{path_text}
use Rattle.rdb_line.specs.Spelt.{words_at}
use Rattle.rdb_line.proofs.LineLaws.{Passed-as, Passed-kept, path_start, path_next}
use Rattle.rdb_line.proofs.put_path.Goals as goal

pub loop-i-init : goal.loop-i-init
loop-i-init c = (omega arith, omega arith, path_start _ _)

pub offset_bounds-places-i : goal.offset_bounds-places-i
offset_bounds-places-i c = omega (arith, c.requires.1.few)

pub bounds-places-i : goal.bounds-places-i
bounds-places-i c = omega (arith, c.requires.1.few)

pub put_step-at-requires : goal.put_step-at-requires
put_step-at-requires c =
    let p = c.requires in
    let i = c.loop-i.i in
    (omega arith, p.1.room i (omega arith), p.1.ended i (omega arith), omega (arith, p.1.few, c.loop-i.invariant.1))

pub overflow_add-i : goal.overflow_add-i
overflow_add-i c = omega (arith, c.requires.1.few)

pub loop-i-preserved : goal.loop-i-preserved
loop-i-preserved c =
    let a = c.args in
    let e = c.put_step-at.ensures in
    (omega arith, omega (arith, e.1, c.loop-i.invariant.1), Passed-as (path_next a.file.now a.places c.loop-i.i) (Passed-then c.loop-i.invariant.2 e.0))

pub shape_of-out : goal.shape_of-out
shape_of-out c = Passed-kept c.loop-i.invariant.2

pub returns : goal.returns
returns c =
    let z : c.loop-i.i ≡ c.args.depth = omega arith in
    (Passed-as (ap (λ (n : ℕ). path_text (words_at c.args.file.now c.args.places n)) z) c.loop-i.invariant.2, omega (arith, c.loop-i.invariant.1, c.requires.1.few))
