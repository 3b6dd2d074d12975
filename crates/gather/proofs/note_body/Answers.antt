-- `gather::note_body` meets its contract.
-- Assumes nothing.
use Rattle.number.proofs.Tools.{arith, refl}
use Rattle.number.specs.Limits.{file_limit}
use Rattle.gather.proofs.Words.{Based-here, Based-there}
use Rattle.gather.proofs.Owns as laws
use Rattle.gather.proofs.note_body.Goals as goal

pub returns-then-b-eq0 : goal.returns-then-b-eq0
returns-then-b-eq0 c = let a = c.args in λ n d o. laws.put_absent a.pool.now a.other.now a.words.now a.u _ n a.b d (omega arith) o refl refl

pub note_descriptor-requires : goal.note_descriptor-requires
note_descriptor-requires c =
    let o = c.requires.0 in
    (laws.body_Room _ _ 0 _ _ (omega arith) (o.led.here (λ e. omega arith) (omega arith)), (omega arith, (omega arith, (omega arith, omega arith))))

pub returns-then-b-le-FILE_LIMIT : goal.returns-then-b-le-FILE_LIMIT
returns-then-b-le-FILE_LIMIT c =
    let a = c.args in
    λ n d o. laws.put_present a.pool.now a.other.now a.words.now a.u c.note_descriptor.result a.pool.now c.note_descriptor.new.words _ 0 0 (Based-here a.pool.now a.other.now (omega arith) (omega arith)) c.note_descriptor.ensures d (o.here (λ e. omega arith) (omega arith))

pub note_descriptor-requires-2 : goal.note_descriptor-requires-2
note_descriptor-requires-2 c =
    let o = c.requires.0 in
    (laws.body_Room _ _ o.rows _ _ (omega arith) (o.led.there (omega arith)), (omega arith, (omega arith, (omega arith, omega arith))))

pub returns : goal.returns
returns c =
    let a = c.args in
    λ n d o. laws.put_present a.pool.now a.other.now a.words.now a.u c.note_descriptor-2.result a.other.now c.note_descriptor-2.new.words _ n file_limit (Based-there a.pool.now a.other.now (omega arith) (omega arith)) c.note_descriptor-2.ensures d (o.there (omega arith))
