-- The digits of a number, as ASCII codes (48 is `0`), and the number that digits spell.
-- Assumes nothing.
use Rattle.std.specs.Prelude.{List, [], ◌∷◌, ◌++◌, ℕ, zero, suc, ◌+◌, ◌-◌, ◌*◌, ◌/◌, ◌%◌}
use Rattle.number.specs.Choice.{when◌then◌else◌, ◌<?◌}

-- the digits of n, the leading one first, of which at most k stand before the last
unfoldable pub digits_within : ℕ → ℕ → List ℕ
digits_within zero n = (48 + n) ∷ []
digits_within (suc k) n =
    let longer : List ℕ = digits_within k (n / 10) ++ ((48 + n % 10) ∷ []) in
    when n <? 10 then (48 + n) ∷ [] else longer

-- the digits of n, of which never more than n stand before the last
unfoldable pub digits_of : ℕ → List ℕ
digits_of n = digits_within n n

-- the number that the digits ds spell after digits that spell v
unfoldable pub value_after : ℕ → List ℕ → ℕ
value_after v [] = v
value_after v (d ∷ ds) = value_after (v * 10 + (d - 48)) ds

-- the number that the digits ds spell
unfoldable pub value_of : List ℕ → ℕ
value_of ds = value_after 0 ds
