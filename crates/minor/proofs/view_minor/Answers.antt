-- `minor::view_minor` meets its contract.
-- Assumes nothing.
use Rattle.number.proofs.Tools.{arith}
use Rattle.minor.proofs.Rows as rows
use Rattle.minor.proofs.Minors as laws
use Rattle.minor.proofs.view_minor.Goals as goal

pub loop-q-init : goal.loop-q-init
loop-q-init c = laws.look_start _ _ _ _

pub offset_bounds-t-q : goal.offset_bounds-t-q
offset_bounds-t-q c = omega (arith, c.requires.1.few)

pub bounds-t-q : goal.bounds-t-q
bounds-t-q c = omega (arith, c.requires.1.few)

pub index-r-requires : goal.index-r-requires
index-r-requires c = tt

pub offset_bounds-holders-r : goal.offset_bounds-holders-r
offset_bounds-holders-r c =
    let v = c.requires in
    let i = rows.read_row_lem _ _ _ _ v.1 _ _ c.loop-q-test.true c.index-r.ensures in
    omega (arith, i.1, rows.rows_few _ _ _ _ _ _ _ v.0.shown)

pub bounds-holders-r : goal.bounds-holders-r
bounds-holders-r c =
    let v = c.requires in
    let i = rows.read_row_lem _ _ _ _ v.1 _ _ c.loop-q-test.true c.index-r.ensures in
    omega (arith, i.1, rows.rows_few _ _ _ _ _ _ _ v.0.shown)

pub index-requires : goal.index-requires
index-requires c = tt

pub row_newer-requires : goal.row_newer-requires
row_newer-requires c =
    let v = c.requires in
    let i = rows.read_row_lem _ _ _ _ v.1 _ _ c.loop-q-test.true c.index-r.ensures in
    let j = rows.read_holder _ _ _ _ v.1 _ _ i.1 c.index.ensures in
    (v.0, j.1)

pub returns-then-row_newer : goal.returns-then-row_newer
returns-then-row_newer c =
    let v = c.requires in
    let m = c.loop-q-test.true in
    let i = rows.read_row_lem _ _ _ _ v.1 _ _ m c.index-r.ensures in
    let j = rows.read_holder _ _ _ _ v.1 _ _ i.1 c.index.ensures in
    laws.look_hit _ _ _ _ _ c.loop-q.invariant m _ _ i.0 j.0 _ c.row_newer.ensures c.if-row_newer.true

pub loop-q-preserved : goal.loop-q-preserved
loop-q-preserved c =
    let v = c.requires in
    let m = c.loop-q-test.true in
    let i = rows.read_row_lem _ _ _ _ v.1 _ _ m c.index-r.ensures in
    let j = rows.read_holder _ _ _ _ v.1 _ _ i.1 c.index.ensures in
    laws.look_next _ _ _ _ _ c.loop-q.invariant m _ _ i.0 j.0 _ c.row_newer.ensures c.if-row_newer.false

pub returns : goal.returns
returns c = laws.look_done _ _ _ _ _ c.loop-q.invariant (omega arith)
