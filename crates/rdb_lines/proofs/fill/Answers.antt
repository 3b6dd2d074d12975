-- `rdb_lines::fill` meets its contract.
-- Assumes nothing.
use mathlib.Core.List.{[]}
use Rattle.number.proofs.Tools.{refl, ◌∙◌, arith}
use Rattle.rdb_path.proofs.Reaching.{root_Reached}
use Rattle.rdb_lines.proofs.WalkLaws.{Walked-as}
use Rattle.rdb_lines.proofs.FillLaws.{root_lines, root_held, Ready-first, full_lines, Fills-full, Fills-over}
use Rattle.rdb_lines.proofs.CountLaws.{lines_few}
use Rattle.rdb_lines.proofs.fill.Goals as goal

pub le32_at-requires : goal.le32_at-requires
le32_at-requires c = omega (arith, (root_Reached _ c.requires.checked).0)

pub le32_at-requires-2 : goal.le32_at-requires-2
le32_at-requires-2 c = omega (arith, (root_Reached _ c.requires.checked).0)

pub pass_all-p-requires : goal.pass_all-p-requires
pass_all-p-requires c = (Ready-first c.args.file.now _ c.args.c refl c.requires, omega arith, (c.requires.checked.reading, root_held c.args.file.now [] (c.pointer-at.ensures ∙ c.le32_at.ensures) (c.pointer-n.ensures ∙ c.le32_at-2.ensures) c.requires.checked))

pub next_cursor-requires : goal.next_cursor-requires
next_cursor-requires c =
    let a = c.args in
    let w = Walked-as (root_lines a.file.now _ (c.pointer-at.ensures ∙ c.le32_at.ensures) (c.pointer-n.ensures ∙ c.le32_at-2.ensures)) c.pass_all-p.ensures.0 in
    let l = full_lines a.file.now a.c w (omega arith) c.if-from-place.true in
    (l.0, omega (arith, l.1, lines_few a.file.now c.requires.checked), c.pass_all-p.ensures.1.near, c.requires.near)

pub returns-then-from-place : goal.returns-then-from-place
returns-then-from-place c =
    let a = c.args in
    let w = Walked-as (root_lines a.file.now _ (c.pointer-at.ensures ∙ c.le32_at.ensures) (c.pointer-n.ensures ∙ c.le32_at-2.ensures)) c.pass_all-p.ensures.0 in
    Fills-full a.file.now a.c w (omega arith) c.if-from-place.true c.pass_all-p.ensures.1 c.next_cursor.ensures

pub returns-then-place-from : goal.returns-then-place-from
returns-then-place-from c =
    let a = c.args in
    let w = Walked-as (root_lines a.file.now _ (c.pointer-at.ensures ∙ c.le32_at.ensures) (c.pointer-n.ensures ∙ c.le32_at-2.ensures)) c.pass_all-p.ensures.0 in
    Fills-over a.file.now a.c w (omega arith) (omega arith) (omega arith)

pub returns : goal.returns
returns c =
    let a = c.args in
    let w = Walked-as (root_lines a.file.now _ (c.pointer-at.ensures ∙ c.le32_at.ensures) (c.pointer-n.ensures ∙ c.le32_at-2.ensures)) c.pass_all-p.ensures.0 in
    Fills-over a.file.now a.c w (omega arith) (omega arith) (omega arith)
