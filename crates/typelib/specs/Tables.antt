-- A table of the first index of each key.
-- Assumes nothing.
use Rattle.std.specs.Prelude.{Bool, List, ℕ, get_or}
use Rattle.number.specs.Choice.{◌<?◌}

-- place i holds a number below i
unfoldable pub lower : List ℕ → ℕ → Bool
lower t i = get_or t i 0 <? i
