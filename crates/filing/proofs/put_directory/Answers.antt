-- `filing::put_directory` meets its contract.
-- Assumes nothing.
use Rattle.number.proofs.Tools.{arith}
use Rattle.iids.specs.Cells.{cell}
use Rattle.writing.proofs.Lent.{length-rest}
use Rattle.filing.proofs.Rows as laws
use Rattle.filing.proofs.put_directory.Goals as goal

pub loop-q-init : goal.loop-q-init
loop-q-init c = laws.file_start _ _ _ _ _ _ _ _ _

pub offset_bounds-t-q : goal.offset_bounds-t-q
offset_bounds-t-q c = omega (arith, c.requires.listed.few)

pub bounds-t-q : goal.bounds-t-q
bounds-t-q c = omega (arith, c.requires.listed.few)

pub index-r-requires : goal.index-r-requires
index-r-requires c = tt

pub offset_bounds-starts-q : goal.offset_bounds-starts-q
offset_bounds-starts-q c = omega (arith, c.requires.listed.few)

pub bounds-starts-q : goal.bounds-starts-q
bounds-starts-q c = omega (arith, c.requires.listed.few)

pub pointer-u-requires : goal.pointer-u-requires
pointer-u-requires c = tt

pub offset_bounds-before-q : goal.offset_bounds-before-q
offset_bounds-before-q c = omega (arith, c.requires.listed.few)

pub bounds-before-q : goal.bounds-before-q
bounds-before-q c = omega (arith, c.requires.listed.few)

pub pointer-requires : goal.pointer-requires
pointer-requires c = tt

pub space_place-space-requires : goal.space_place-space-requires
space_place-space-requires c = omega (arith, laws.row_low c.requires.listed c.loop-q.q c.loop-q-test.true)

pub offset_bounds-high-r : goal.offset_bounds-high-r
offset_bounds-high-r c = omega (arith, laws.row_low c.requires.listed c.loop-q.q c.loop-q-test.true)

pub bounds-high-r : goal.bounds-high-r
bounds-high-r c = omega (arith, laws.row_low c.requires.listed c.loop-q.q c.loop-q-test.true)

pub offset_bounds-low-r : goal.offset_bounds-low-r
offset_bounds-low-r c = omega (arith, laws.row_low c.requires.listed c.loop-q.q c.loop-q-test.true)

pub bounds-low-r : goal.bounds-low-r
bounds-low-r c = omega (arith, laws.row_low c.requires.listed c.loop-q.q c.loop-q-test.true)

pub offset_bounds-places-u : goal.offset_bounds-places-u
offset_bounds-places-u c = omega (arith, laws.row_low c.requires.listed c.loop-q.q c.loop-q-test.true)

pub bounds-places-u : goal.bounds-places-u
bounds-places-u c = omega (arith, laws.row_low c.requires.listed c.loop-q.q c.loop-q-test.true)

pub offset_bounds-owns-q : goal.offset_bounds-owns-q
offset_bounds-owns-q c = omega (arith, c.requires.listed.few)

pub bounds-owns-q : goal.bounds-owns-q
bounds-owns-q c = omega (arith, c.requires.listed.few)

pub overflow_mul-q : goal.overflow_mul-q
overflow_mul-q c = omega (arith, c.requires.listed.few)

pub slice_bounds-put_entry-count : goal.slice_bounds-put_entry-count
slice_bounds-put_entry-count c = omega (arith, c.requires.room, c.loop-q.invariant.same)

pub slice_bounds-put_entry-start : goal.slice_bounds-put_entry-start
slice_bounds-put_entry-start c = omega (arith, c.requires.room, c.loop-q.invariant.same)

pub put_entry-requires : goal.put_entry-requires
put_entry-requires c = rw (length-rest _ _) (omega (arith, c.requires.room, c.loop-q.invariant.same))

pub loop-q-preserved : goal.loop-q-preserved
unfolding cell
loop-q-preserved c = laws.file_next _ _ _ _ _ _ _ _ _ c.loop-q-test.true _ _ _ c.index-r.ensures c.pointer-u.ensures c.pointer.ensures _ c.space_place-space.ensures _ _ c.put_entry.new.out c.requires c.loop-q.invariant c.put_entry.ensures

pub shape_of-out : goal.shape_of-out
shape_of-out c = c.loop-q.invariant.same

pub returns : goal.returns
returns c = laws.file_done _ _ _ _ _ _ _ _ _ _ _ c.loop-q.invariant (omega arith)
