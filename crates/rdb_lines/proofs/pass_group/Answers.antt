-- `rdb_lines::pass_group` meets its contract.
-- Assumes nothing.
use Rattle.number.proofs.Tools.{◌∙◌, arith}
use Rattle.rdb_path.proofs.Reaching.{visited_inside, group_reached}
use Rattle.rdb_lines.proofs.WalkLaws.{Walked-none, Walked-as}
use Rattle.rdb_lines.proofs.MapLaws.{group_other, group_constants, group_held}
use Rattle.rdb_lines.proofs.pass_group.Goals as goal

pub bounds-file-o : goal.bounds-file-o
bounds-file-o c = omega (arith, visited_inside _ _ _ c.requires.2.1)

pub returns-then-file-o-ne-GROUP : goal.returns-then-file-o-ne-GROUP
returns-then-file-o-ne-GROUP c = (Walked-as (group_other c.args.file.now _ c.args.o (λ e. omega arith)) Walked-none, c.requires.0.fit)

pub overflow_add-o : goal.overflow_add-o
overflow_add-o c = omega (arith, (group_reached _ _ _ c.requires.2.1 (omega arith)).0)

pub le32_at-requires : goal.le32_at-requires
le32_at-requires c = omega (arith, (group_reached _ _ _ c.requires.2.1 (omega arith)).0)

pub overflow_add-o-2 : goal.overflow_add-o-2
overflow_add-o-2 c = omega (arith, (group_reached _ _ _ c.requires.2.1 (omega arith)).0)

pub pass_constants-requires : goal.pass_constants-requires
pass_constants-requires c = (c.requires.0, c.requires.1, group_held c.requires.2.0 c.args.file.now c.args.o c.requires.2.1 (c.pointer-n.ensures ∙ c.le32_at.ensures) (omega arith))

pub returns : goal.returns
returns c =
    let a = c.args in
    let w = c.pass_constants.ensures in
    (Walked-as (group_constants a.file.now _ a.o (omega arith) (c.pointer-n.ensures ∙ c.le32_at.ensures)) w.0, w.1)
