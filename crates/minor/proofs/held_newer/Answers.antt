-- `minor::held_newer` meets its contract.
-- Assumes nothing.
use Rattle.number.proofs.Tools.{arith}
use Rattle.minor.proofs.Owns as owns
use Rattle.minor.proofs.Minors as laws
use Rattle.minor.proofs.held_newer.Goals as goal

pub returns-then-file-lt-STRINGS_MINOR : goal.returns-then-file-lt-STRINGS_MINOR
returns-then-file-lt-STRINGS_MINOR c =
    let a = c.args in
    record { each = λ es h. laws.older_new a.file.now a.pool.now a.l a.i (omega arith) es h (omega arith) }

pub returns-then-at-eq0 : goal.returns-then-at-eq0
returns-then-at-eq0 c =
    let a = c.args in
    record { each = λ es h. laws.none_new (owns.held_none a.file.now a.pool.now a.l a.i c.descriptor_pointer-at.result c.descriptor_pointer-at.ensures (omega arith) es h) }

pub descriptor_newer-requires : goal.descriptor_newer-requires
descriptor_newer-requires c =
    let a = c.args in
    let g = c.requires.0 in
    (laws.resolved_shown a.pool.now c.descriptor_pointer-at.result a.i g.value (owns.resolved a.file.now a.pool.now a.l a.i c.descriptor_pointer-at.result c.descriptor_pointer-at.ensures (λ e. omega arith) g.value g.shown), owns.pool_short a.file.now a.pool.now a.l g.value g.shown)

pub returns : goal.returns
returns c =
    let a = c.args in
    record { each = λ es h. laws.resolved_new a.pool.now c.descriptor_pointer-at.result a.i es (owns.resolved a.file.now a.pool.now a.l a.i c.descriptor_pointer-at.result c.descriptor_pointer-at.ensures (λ e. omega arith) es h) c.descriptor_newer.ensures }
