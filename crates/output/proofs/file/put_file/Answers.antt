-- `output::file::put_file` meets its contract: measured, then written, what stands before the directory last.
-- Assumes nothing.
use Rattle.std.specs.Prelude.{◌+◌, ◌*◌}
use Rattle.number.proofs.Tools.{arith, refl}
use Rattle.writing.proofs.Lent.{back, length-rest}
use Rattle.output.proofs.Tables as tables
use Rattle.output.proofs.Files as files
use Rattle.output.proofs.file.put_file.Goals as goal

pub measure-m-requires : goal.measure-m-requires
measure-m-requires c =
    let g = c.requires.0 in
    (record { rows = _; entries = g.value; leading = g.shown.leading }, (omega arith, (omega arith, (omega arith, (omega arith, omega arith)))))

pub returns-then-size-gt-FILE_LIMIT : goal.returns-then-size-gt-FILE_LIMIT
returns-then-size-gt-FILE_LIMIT c = λ us r. ((c.measure-m.ensures.0 _ us r.leading).over (omega arith), refl)

pub returns-then-out-size : goal.returns-then-out-size
returns-then-out-size c = λ us r. ((c.measure-m.ensures.0 _ us r.leading).size (omega arith), (omega arith, (omega arith, refl)))

pub slice_bounds-put_pool-count : goal.slice_bounds-put_pool-count
slice_bounds-put_pool-count c =
    let g = c.requires.0 in
    let s = c.if-size-gt-FILE_LIMIT.false in
    let k = c.measure-m.ensures.0 _ g.value g.shown.leading in
    omega (arith, tables.directory_in _ _ _ _ _ _ _ _ _ _ _ _ g.shown _ _ _ _ _ _ k s)

pub slice_bounds-put_pool-start : goal.slice_bounds-put_pool-start
slice_bounds-put_pool-start c =
    let g = c.requires.0 in
    let s = c.if-size-gt-FILE_LIMIT.false in
    let k = c.measure-m.ensures.0 _ g.value g.shown.leading in
    omega (arith, tables.directory_in _ _ _ _ _ _ _ _ _ _ _ _ g.shown _ _ _ _ _ _ k s)

pub put_pool-requires : goal.put_pool-requires
put_pool-requires c =
    let a = c.args in
    let g = c.requires.0 in
    let s = c.if-size-gt-FILE_LIMIT.false in
    let k = c.measure-m.ensures.0 _ g.value g.shown.leading in
    (tables.tables_fit _ _ _ _ _ _ _ _ _ _ _ _ g.shown _ _ _ _ _ _ k s _ (omega (arith, length-rest a.out.now (36 + 28 * a.c), tables.directory_in _ _ _ _ _ _ _ _ _ _ _ _ g.shown _ _ _ _ _ _ k s)), (c.requires.1.1, c.measure-m.ensures.1))

pub slice_bounds-put_directory-count : goal.slice_bounds-put_directory-count
slice_bounds-put_directory-count c =
    let a = c.args in
    let g = c.requires.0 in
    let s = c.if-size-gt-FILE_LIMIT.false in
    let o = c.if-out-size.false in
    let k = c.measure-m.ensures.0 _ g.value g.shown.leading in
    let e = tables.directory_in _ _ _ _ _ _ _ _ _ _ _ _ g.shown _ _ _ _ _ _ k s in
    let f = c.put_pool.auto.out in
    let l = files.lent_length a.out.now c.put_pool.new.out (36 + 28 * a.c) (omega (arith, e, o)) f in
    omega (arith, e, l)

pub slice_bounds-put_directory-start : goal.slice_bounds-put_directory-start
slice_bounds-put_directory-start c =
    let a = c.args in
    let g = c.requires.0 in
    let s = c.if-size-gt-FILE_LIMIT.false in
    let o = c.if-out-size.false in
    let k = c.measure-m.ensures.0 _ g.value g.shown.leading in
    let e = tables.directory_in _ _ _ _ _ _ _ _ _ _ _ _ g.shown _ _ _ _ _ _ k s in
    let f = c.put_pool.auto.out in
    let l = files.lent_length a.out.now c.put_pool.new.out (36 + 28 * a.c) (omega (arith, e, o)) f in
    omega (arith, e, l)

pub put_directory-requires : goal.put_directory-requires
put_directory-requires c =
    let a = c.args in
    let g = c.requires.0 in
    let s = c.if-size-gt-FILE_LIMIT.false in
    let o = c.if-out-size.false in
    let k = c.measure-m.ensures.0 _ g.value g.shown.leading in
    let e = tables.directory_in _ _ _ _ _ _ _ _ _ _ _ _ g.shown _ _ _ _ _ _ k s in
    let f = c.put_pool.auto.out in
    let l = files.lent_length a.out.now c.put_pool.new.out (36 + 28 * a.c) (omega (arith, e, o)) f in
    let p = c.put_pool.ensures.0 _ (tables.tabled _ _ _ _ _ _ _ _ _ _ _ _ g.shown _ _ _ _ _ _ k s) in
    tables.list_fits _ _ _ _ _ _ _ _ _ _ _ _ g.shown _ _ _ _ _ _ k s _ p.pointers _ (omega (arith, e, l, length-rest (back a.out.now (36 + 28 * a.c) c.put_pool.new.out) 36))

pub put_front-requires : goal.put_front-requires
put_front-requires c =
    let a = c.args in
    let g = c.requires.0 in
    let s = c.if-size-gt-FILE_LIMIT.false in
    let o = c.if-out-size.false in
    let k = c.measure-m.ensures.0 _ g.value g.shown.leading in
    let e = tables.directory_in _ _ _ _ _ _ _ _ _ _ _ _ g.shown _ _ _ _ _ _ k s in
    let f = c.put_pool.auto.out in
    let l = files.lent_length a.out.now c.put_pool.new.out (36 + 28 * a.c) (omega (arith, e, o)) f in
    let d = files.lent_length (back a.out.now (36 + 28 * a.c) c.put_pool.new.out) c.put_directory.new.out 36 (omega (arith, e, l)) c.put_directory.auto.out in
    (g.shown.few, (s, omega (arith, e, l, d)))

pub returns : goal.returns
returns c =
    let a = c.args in
    let s = c.if-size-gt-FILE_LIMIT.false in
    λ us r.
    let k = c.measure-m.ensures.0 _ us r.leading in
    let p = c.put_pool.ensures.0 us (tables.tabled _ _ _ _ _ _ _ _ _ _ _ us r _ _ _ _ _ _ k s) in
    let d = c.put_directory.ensures us (tables.listed _ _ _ _ _ _ _ _ _ _ _ us r _ _ _ _ _ _ k s _ p.pointers) in (
      k.size s,
      (
        s,
        (
          c.if-out-size.false,
          files.file_stored _ _ us _ _ _ (tables.count_is _ _ _ _ _ _ _ _ _ _ _ us r _ _ _ _ _ _ k s) r.newest (k.size s) _
              (tables.uses_are _ _ _ _ _ _ _ _ _ _ _ us r _ _ _ _ _ _ k s) (k.placed s) a.out.now _ _ _ (36 + 28 * a.c) refl p.stored d c.put_front.ensures,
        ),
      ),
    )
