-- `gather::note_rows` meets its contract.
-- Assumes nothing.
use lib.ListN.{length-set}
use Rattle.number.proofs.Tools.{arith}
use Rattle.gather.proofs.Turns as turns
use Rattle.gather.proofs.note_rows.Goals as goal

pub overflow_mul-total : goal.overflow_mul-total
overflow_mul-total c = omega (arith, c.requires.0.leading.few)

pub overflow_add-total : goal.overflow_add-total
overflow_add-total c = omega (arith, c.requires.0.leading.few)

pub loop-q-init : goal.loop-q-init
loop-q-init c = turns.Gone-start _ _ _ _ _ _ _ _ _ c.requires.0 (omega arith) (omega arith) (omega arith)

pub offset_bounds-names-q : goal.offset_bounds-names-q
offset_bounds-names-q c = omega (arith, c.loop-q.invariant.rows)

pub bounds-names-q : goal.bounds-names-q
bounds-names-q c = omega (arith, c.loop-q.invariant.rows)

pub offset_bounds-spaces-q : goal.offset_bounds-spaces-q
offset_bounds-spaces-q c = omega (arith, c.loop-q.invariant.rows)

pub bounds-spaces-q : goal.bounds-spaces-q
bounds-spaces-q c = omega (arith, c.loop-q.invariant.rows)

pub note_key-e-requires : goal.note_key-e-requires
note_key-e-requires c =
    let i = c.loop-q.invariant in
    (turns.key_Given _ _ _ _ _ _ _ _ _ _ _ _ _ _ i (omega arith) c.requires.0, (omega (arith, i.uses, i.small), omega (arith, i.long)))

pub overflow_cast-names : goal.overflow_cast-names
overflow_cast-names c = let i = c.loop-q.invariant in omega (arith, i.uses, i.small)

pub offset_bounds-names-q-in-loop-q : goal.offset_bounds-names-q-in-loop-q
offset_bounds-names-q-in-loop-q c = omega (arith, c.loop-q.invariant.rows)

pub bounds-names-q-in-loop-q : goal.bounds-names-q-in-loop-q
bounds-names-q-in-loop-q c = let i = c.loop-q.invariant in omega (arith, i.rows, i.starts_long)

pub offset_bounds-bodies-q : goal.offset_bounds-bodies-q
offset_bounds-bodies-q c = omega (arith, c.loop-q.invariant.rows)

pub bounds-bodies-q : goal.bounds-bodies-q
bounds-bodies-q c = omega (arith, c.loop-q.invariant.rows)

pub note_body-x-requires : goal.note_body-x-requires
note_body-x-requires c =
    let i = c.loop-q.invariant in
    let h = c.requires.0 in
    let k = c.note_key-e.ensures in
    (turns.own_given _ _ _ _ _ _ _ _ _ _ _ _ _ _ i (omega arith) h _ c.pointer.ensures, (h.leading.small, (h.leading.other_small, (omega (arith, turns.key_small _ _ _ _ _ _ _ _ _ _ _ _ _ _ i (omega arith) h _ _ k, i.uses, i.small), omega (arith, turns.key_long _ _ _ _ _ _ _ _ _ _ _ _ _ _ i (omega arith) h _ _ k)))))

pub overflow_cast-before : goal.overflow_cast-before
overflow_cast-before c =
    let i = c.loop-q.invariant in
    omega (arith, turns.key_small _ _ _ _ _ _ _ _ _ _ _ _ _ _ i (omega arith) c.requires.0 _ _ c.note_key-e.ensures, i.uses, i.small)

pub offset_bounds-before-q : goal.offset_bounds-before-q
offset_bounds-before-q c = omega (arith, c.loop-q.invariant.rows)

pub bounds-before-q : goal.bounds-before-q
bounds-before-q c = let i = c.loop-q.invariant in omega (arith, i.rows, i.before_long)

pub overflow_cast-sizes : goal.overflow_cast-sizes
overflow_cast-sizes c =
    let h = c.requires.0 in
    omega (arith, turns.size_small _ _ _ _ _ _ _ _ _ _ _ _ _ _ c.loop-q.invariant (omega arith) h _ _ _ _ _ c.pointer.ensures c.note_key-e.ensures c.note_body-x.ensures h.rows h.entries h.leading)

pub offset_bounds-sizes-q : goal.offset_bounds-sizes-q
offset_bounds-sizes-q c = omega (arith, c.loop-q.invariant.rows)

pub bounds-sizes-q : goal.bounds-sizes-q
bounds-sizes-q c = let i = c.loop-q.invariant in omega (arith, i.rows, i.sizes_long)

pub overflow_add-total-in-loop-q : goal.overflow_add-total-in-loop-q
overflow_add-total-in-loop-q c =
    let i = c.loop-q.invariant in
    let h = c.requires.0 in
    omega (arith, turns.size_small _ _ _ _ _ _ _ _ _ _ _ _ _ _ i (omega arith) h _ _ _ _ _ c.pointer.ensures c.note_key-e.ensures c.note_body-x.ensures h.rows h.entries h.leading, i.small)

pub returns-then-total-gt-FILE_LIMIT : goal.returns-then-total-gt-FILE_LIMIT
returns-then-total-gt-FILE_LIMIT c = (λ n us l. turns.over _ _ _ _ _ _ _ _ _ _ _ _ _ _ c.loop-q.invariant (omega arith) c.requires.0 _ _ _ _ _ c.pointer.ensures c.note_key-e.ensures c.note_body-x.ensures n us l (omega arith), simp length-set c.loop-q.invariant.sizes_long)

pub loop-q-preserved : goal.loop-q-preserved
loop-q-preserved c = turns.Gone-next _ _ _ _ _ _ _ _ _ _ _ _ _ _ c.loop-q.invariant (omega arith) c.requires.0 _ _ _ _ _ c.pointer.ensures c.note_key-e.ensures c.note_body-x.ensures (omega arith)

pub returns : goal.returns
returns c = (turns.gone_done _ _ _ _ _ _ _ _ _ _ _ _ _ _ c.loop-q.invariant (omega arith), c.loop-q.invariant.sizes_long)
