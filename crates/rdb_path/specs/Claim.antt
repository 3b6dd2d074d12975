-- Theorems on the words of a path.
-- Assumes nothing.
use Rattle.std.specs.Prelude.{◌≡◌, Bool, true, false, List, [], ◌∷◌, ℕ}
use Rattle.number.specs.Choice.{when◌then◌else◌, ◌=?◌}
use Rattle.rdb_path.specs.Path.{cut, joined}

-- a byte of w is a dot
unfoldable pub has_dot : List ℕ → Bool
has_dot [] = false
has_dot (b ∷ w) = when b =? 0x2e then true else has_dot w

-- no byte of any of the words is
unfoldable pub dotless : List (List ℕ) → Bool
dotless [] = true
dotless (w ∷ ws) = when has_dot w then false else dotless ws

-- so the words of a path are the one list of words without a dot, one or more, that, joined by dots, is the path
pub record CutClaim : Type 0 where
  -- a path cut at every dot joins again
  pub back : (path : List ℕ) → joined (cut path) ≡ path
  -- its words have no dot
  pub plain : (path : List ℕ) → dotless (cut path) ≡ true
  -- and words without a dot, one or more, are cut apart as they were joined
  pub again : (w : List ℕ) (ws : List (List ℕ)) → dotless (w ∷ ws) ≡ true → cut (joined (w ∷ ws)) ≡ w ∷ ws
