-- Entries whose normal form may be written and read back.
-- Assumes nothing.
use Rattle.std.specs.Prelude.{List, ◌≤◌, length}
use Rattle.number.specs.Limits.{file_limit, entry_limit}
use Rattle.key.specs.Key.{Key}
use Rattle.reader.specs.Values.{Entry}
use Rattle.reader.specs.Rules.{All, InOrder, UniqueKeys, NoCycle}
use Rattle.meaning.specs.Index.{renumbered, Closed}
use Rattle.meaning.specs.Normal.Encodable.{Sound}
use Rattle.meaning.specs.Stock.Uses.{normal_length}

-- At most 1,024 entries and 1,048,576 bytes, each entry sound, no reference to a key that is not there; they stand in the order of a directory, no key is
-- there twice, and every parent chain ends.
pub record Readable (us : List (Entry Key)) : Type 0 where
  pub few : length us ≤ entry_limit
  pub short : normal_length us ≤ file_limit
  pub each : All Sound us
  pub closed : Closed us
  pub order : InOrder (renumbered us)
  pub keys : UniqueKeys (renumbered us)
  pub chains : NoCycle (renumbered us)
