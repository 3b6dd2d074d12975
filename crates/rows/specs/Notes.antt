-- What tables hold of a file's entries, whose rows stand from one on: s is the file, laid out as l says.
-- Assumes nothing.
use Rattle.std.specs.Prelude.{◌≡◌, List, ℕ, ◌+◌, ◌*◌, ◌^◌, ◌≤◌, ◌<◌, length, get_or, drop}
use Rattle.number.specs.Limits.{entry_width, row_limit}
use Rattle.number.specs.Number.{be}
use Rattle.key.specs.Key.{key_space, key_name}
use Rattle.reader.specs.declared.Layout.{Layout}
use Rattle.reader.specs.Values.{Entry, keys_in, descriptor_in}
use Rattle.reader.specs.Records.{ShowsOwn}
use Rattle.reader.specs.Layout.{LaidOut, Spells, SpellsSpace}
use Rattle.rows.specs.Rows.{above_row}
use Rattle.iids.specs.Joined.{held}
use Rattle.tables.specs.Chains.{up_first}
use Rattle.iids.specs.Cells.{cell}

-- u is t with n places from `from` on filled: the k-th of them with a value of which P k holds; the others are as they were
pub record Noted (P : ℕ → ℕ → Type 0) (t u : List ℕ) (from n : ℕ) : Type 0 where
  pub long : row_limit ≡ length u
  pub kept : (k : ℕ) → k < from → get_or u k 0 ≡ get_or t k 0
  pub each : (k : ℕ) → k < n → P k (get_or u (from + k) 0)
  pub rest : (k : ℕ) → from + n ≤ k → get_or u k 0 ≡ get_or t k 0

-- v is the pool pointer of the name of entry i
pub record NameOf (s : List ℕ) (l : Layout) (i v : ℕ) : Type 0 where
  pub told : (es : List (Entry ℕ)) → LaidOut s l es → Spells (drop l.pool s) v (key_name (keys_in es i))

-- of its namespace
pub record SpaceOf (s : List ℕ) (l : Layout) (i v : ℕ) : Type 0 where
  pub told : (es : List (Entry ℕ)) → LaidOut s l es → SpellsSpace (drop l.pool s) v (key_space (keys_in es i))

-- of its descriptor
pub record OwnOf (s : List ℕ) (l : Layout) (i v : ℕ) : Type 0 where
  pub told : (es : List (Entry ℕ)) → LaidOut s l es → ShowsOwn (drop l.pool s) v (descriptor_in es i)

-- v is the number of the first eight bytes of its IID
pub record HighOf (s : List ℕ) (l : Layout) (i v : ℕ) : Type 0 where
  pub value : v ≡ be 8 s (l.directory + entry_width * i)

-- of the last eight
pub record LowOf (s : List ℕ) (l : Layout) (i v : ℕ) : Type 0 where
  pub value : v ≡ be 8 s (l.directory + entry_width * i + 8)
  pub small : v < 256 ^ 8

-- the row above i, and 1, where tables tell the first row of each key and which row has the descriptor of i
unfoldable pub up_row : List ℕ → List ℕ → List (Entry ℕ) → List (Entry ℕ) → ℕ → ℕ
up_row first holders es fs i = up_first (cell first) (held (above_row es fs) (cell holders i))
