-- What is said of the lists inside a part, by where they stand.
-- Assumes nothing.
use Rattle.std.specs.Prelude.{Bool, List, ℕ, None, Option, Some}
use Rattle.number.specs.Choice.{when◌then◌else◌}
use Rattle.rdb_interface.specs.declared.SetCount.{SetCount}
use Rattle.rdb_interface.specs.Interface.{where_sets}
use Rattle.rdb_ends.specs.Ends.{parameter_end}
use Rattle.rdb_places.specs.Places.{place_in}
use Rattle.rdb_parts.specs.declared.PartAnswer.{PartAnswer}
use Rattle.rdb_parts.specs.declared.PartAnswer.TheVariants as answer
use Rattle.rdb_parts.specs.Said.{list_text, typed_at}

-- annotation j of those at `at`, where there are any
unfoldable pub note_text : Bool → List ℕ → ℕ → ℕ → PartAnswer
note_text a s at j = when a then list_text s at j else answer.None

-- set exception j of an attribute with the kind byte k
unfoldable pub set_text : SetCount → ℕ → List ℕ → ℕ → ℕ → PartAnswer
set_text m k s at j = where_sets m k (list_text s at j) answer.None

unfoldable pub typed_in : List ℕ → Option ℕ → PartAnswer
typed_in s (Some p) = typed_at s p
typed_in s None = answer.None

-- parameter j of those counted at `at`
unfoldable pub parameter_text : List ℕ → ℕ → ℕ → PartAnswer
parameter_text s at j = typed_in s (place_in (parameter_end s) s at j)
