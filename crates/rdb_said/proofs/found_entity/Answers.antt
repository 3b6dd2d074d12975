-- `rdb_said::found_entity` meets its contract.
-- Assumes nothing.
use mathlib.Core.List.{◌++◌}
use Rattle.number.proofs.Tools.{refl, arith}
use Rattle.decimal.specs.Digits.{digits_of}
use Rattle.decimal.proofs.Laws.{length_u64}
use Rattle.text.specs.Line.{space, newline}
use Rattle.text.proofs.WritingLaws.{wrote, Wrote-label, Wrote-then}
use Rattle.said.specs.Texts.{found}
use Rattle.said.proofs.SayingLaws.{says}
use Rattle.rdb_said.specs.Sayings.{say_entity}
use Rattle.rdb_said.proofs.found_entity.Goals as goal

pub put_labelled-space-requires : goal.put_labelled-space-requires
put_labelled-space-requires c = omega (arith, length_u64 c.args.x.kind (omega arith))

pub put_labelled-end-requires : goal.put_labelled-end-requires
put_labelled-end-requires c = let a = c.args in omega (arith, c.put_labelled-space.auto.out, length_u64 a.x.kind (omega arith), length_u64 a.x.offset (omega arith))

pub put_bytes-length-requires : goal.put_bytes-length-requires
put_bytes-length-requires c = let a = c.args in omega (arith, c.put_labelled-space.auto.out, c.put_labelled-end.auto.out, length_u64 a.x.kind (omega arith), length_u64 a.x.offset (omega arith))

pub returns : goal.returns
unfolding say_entity
returns c =
    let a = c.args in
    let l = a.line.now in
    let kind = found ++ digits_of a.x.kind in
    let offset = space ++ digits_of a.x.offset in
    let one = Wrote-label l found (digits_of a.x.kind) 0 c.put_labelled-space.ensures in
    let two = Wrote-then l kind offset 0 one (Wrote-label _ space (digits_of a.x.offset) _ c.put_labelled-end.ensures) in
    says _ _ (Wrote-then l (kind ++ offset) newline 0 two (wrote _ newline _ c.put_bytes-length.ensures)) refl (omega (arith, length_u64 a.x.kind (omega arith), length_u64 a.x.offset (omega arith)))
