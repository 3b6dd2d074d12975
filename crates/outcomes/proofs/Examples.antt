-- A closed example, computed.
-- Assumes nothing.
use Rattle.std.specs.Prelude.{Err}
use mathlib.Core.Path.{◌≡◌, refl}
use mathlib.Core.List.{[], ◌∷◌}
use Rattle.number.specs.Choice.{when◌then◌else◌, ◌<?◌}
use Rattle.decimal.specs.Digits.{digits_of, digits_within}
use Rattle.link.specs.declared.Which.TheVariants.{Union}
use Rattle.outcomes.specs.Lines.{linked_text, which_number}

-- `refused 0 23 1`
union : linked_text (Err (record { which = Union; why = record { no = 23; place = 1 } })) ≡ 114 ∷ 101 ∷ 102 ∷ 117 ∷ 115 ∷ 101 ∷ 100 ∷ 32 ∷ 48 ∷ 32 ∷ 50 ∷ 51 ∷ 32 ∷ 49 ∷ 10 ∷ []
unfolding linked_text which_number digits_of digits_within when◌then◌else◌ ◌<?◌
union = refl
