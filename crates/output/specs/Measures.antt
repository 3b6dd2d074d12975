-- What the tables tell of entries once they are measured.
-- Assumes nothing.
use Rattle.std.specs.Prelude.{◌≡◌, List, ℕ, ◌≤◌, ◌<◌}
use Rattle.number.specs.Limits.{file_limit}
use Rattle.key.specs.First.{Filled}
use Rattle.reader.specs.Values.{Entry}
use Rattle.meaning.specs.Stock.Uses.{normal_length}
use Rattle.meaning.specs.Stock.Pool.{pieces_of, once_at}
use Rattle.gather.specs.Leading.{Gathered}
use Rattle.output.specs.declared.Measured.{Measured}

-- their file is too long, or as long as is said, and then the tables hold them and the places of their uses
pub record Measures (us : List (Entry ℕ)) (pool other words starts before sizes places : List ℕ) (c : ℕ) (r : Measured) : Type 0 where
  pub over : file_limit < r.size → file_limit < normal_length us
  pub size : r.size ≤ file_limit → r.size ≡ normal_length us
  pub gathered : r.size ≤ file_limit → Gathered us pool other words starts before sizes r.uses c
  pub placed : r.size ≤ file_limit → Filled places r.uses (once_at (pieces_of us))
