-- A place that was found, as the code tells it.
-- Assumes nothing.
use Rattle.std.proofs.Math.Option.{Option as Found, none, some}
use Rattle.std.specs.Prelude.{ℕ, None, Option, Some}

unfoldable pub place_of : Found ℕ → Option ℕ
place_of none = None
place_of (some o) = Some o
