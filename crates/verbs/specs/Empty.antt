-- Empty words.
-- Assumes nothing.
use Rattle.std.specs.Prelude.{Bool, true, false, List, [], ◌∷◌, ℕ}

-- one of the words has no bytes
unfoldable pub has_empty : List (List ℕ) → Bool
has_empty [] = false
has_empty ([] ∷ ws) = true
has_empty ((b ∷ w) ∷ ws) = has_empty ws
