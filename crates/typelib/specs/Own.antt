-- Descriptors that were accepted.
-- Assumes nothing.
use Rattle.std.specs.Prelude.{List, ℕ, ◌+◌, ◌*◌, ◌<◌}
use Rattle.number.specs.Limits.{entry_width}
use Rattle.reading.specs.Got.{Accepted}
use Rattle.reading.specs.declared.Context.{Context}
use Rattle.typelib.specs.Entry.{read_own}

-- those of the first k entries of a directory at d
pub record Settled (c : Context) (s pool : List ℕ) (d k : ℕ) : Type 0 where
  pub each : (j : ℕ) → j < k → Accepted (read_own c s pool (d + entry_width * j))
