-- `rdb_numbers::stored_at` meets its contract.
-- Assumes nothing.
use Rattle.number.proofs.Tools.{arith, refl, sym, ◌∙◌}
use Rattle.number.specs.Number.{little}
use Rattle.number.proofs.Laws.{num-one}
use Rattle.rdb_record.proofs.SizeLaws.{size_one, size_two, size_four, size_eight, size_float, size_double}
use Rattle.rdb_numbers.proofs.NumberLaws.{sized}
use Rattle.rdb_numbers.proofs.stored_at.Goals as goal

pub bounds-file-at : goal.bounds-file-at
bounds-file-at c = omega (arith, size_one c.args.kind (omega arith))

pub returns-then-kind-lt2 : goal.returns-then-kind-lt2
returns-then-kind-lt2 c = sized _ _ 1 256 _ refl (size_one _ (omega arith)) (c.wide.ensures.0 ∙ sym (num-one little _ _)) c.wide.ensures.1

pub le16_at-requires : goal.le16_at-requires
le16_at-requires c = omega (arith, size_two c.args.kind (omega arith) (omega arith))

pub returns-then-kind-lt4 : goal.returns-then-kind-lt4
returns-then-kind-lt4 c = sized _ _ 2 65536 _ refl (size_two _ (omega arith) (omega arith)) c.le16_at.ensures (omega arith)

pub le32_at-requires : goal.le32_at-requires
le32_at-requires c = omega (arith, size_four c.args.kind (omega arith) (omega arith))

pub returns-then-kind-lt6 : goal.returns-then-kind-lt6
returns-then-kind-lt6 c = sized _ _ 4 4294967296 _ refl (size_four _ (omega arith) (omega arith)) c.le32_at.ensures (omega arith)

pub le64_at-requires : goal.le64_at-requires
le64_at-requires c = omega (arith, size_eight c.args.kind (omega arith) (omega arith))

pub returns-then-kind-lt8 : goal.returns-then-kind-lt8
returns-then-kind-lt8 c = sized _ _ 8 18446744073709551616 _ refl (size_eight _ (omega arith) (omega arith)) c.le64_at.ensures (omega arith)

pub le32_at-requires-then-kind-eq8 : goal.le32_at-requires-then-kind-eq8
le32_at-requires-then-kind-eq8 c = omega (arith, size_float c.args.kind (omega arith))

pub returns-then-kind-eq8 : goal.returns-then-kind-eq8
returns-then-kind-eq8 c = sized _ _ 4 4294967296 _ refl (size_float _ (omega arith)) c.le32_at-then-kind-eq8.ensures (omega arith)

pub le64_at-requires-2 : goal.le64_at-requires-2
le64_at-requires-2 c = omega (arith, size_double c.args.kind (omega arith))

pub returns : goal.returns
returns c = sized _ _ 8 18446744073709551616 _ refl (size_double _ (omega arith)) c.le64_at-2.ensures (omega arith)
