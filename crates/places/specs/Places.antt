-- Where the words of uses lie in the pool, each stored once.
-- Assumes nothing.
use Rattle.std.specs.Prelude.{List, ℕ, zero, suc, ◌+◌, ◌≤◌, ◌<◌, get_or}
use Rattle.number.specs.Limits.{file_limit, row_limit}
use Rattle.number.specs.Choice.{when◌then◌else◌, ◌≤?◌, ◌=?◌}
use Rattle.key.specs.First.{first_same}
use Rattle.names.specs.Uses.{spelt, spelling}
use Rattle.meaning.specs.Normal.Size.{name_size}

-- the sum of what f gives below n
unfoldable pub up_to : (ℕ → ℕ) → ℕ → ℕ
up_to f zero = 0
up_to f (suc n) = up_to f n + f n

-- what is stored at use u: its word with a zero byte, where u is the first use of it
unfoldable pub stored_use : List ℕ → List ℕ → List ℕ → ℕ → ℕ
stored_use pool other words u = when first_same (spelling pool other words) u =? u then name_size (spelt pool other words u) else 0

-- body i, which has `sizes i` bytes and stands right before use `before i`, if it stands before the word of use u
unfoldable pub body_ahead : List ℕ → List ℕ → ℕ → ℕ → ℕ
body_ahead before sizes u i = when get_or before i 0 ≤? u then get_or sizes i 0 else 0

-- the pool pointer of what stands at use u, after the c bodies and the words that stand before it
unfoldable pub pointer_at : List ℕ → List ℕ → List ℕ → List ℕ → List ℕ → ℕ → ℕ → ℕ
pointer_at pool other words before sizes c u = 1 + up_to (stored_use pool other words) u + up_to (body_ahead before sizes u) c

-- no sum of bodies and words comes near it
abbrev pub room_limit : ℕ
room_limit = 17592186044416

-- the bodies stand in order, among n uses
pub record InOrder (before : List ℕ) (c n : ℕ) : Type 0 where
  pub few : c ≤ row_limit
  pub rising : (i j : ℕ) → i < j → j < c → get_or before i 0 ≤ get_or before j 0
  pub within : (i : ℕ) → i < c → get_or before i 0 ≤ n

-- no pool pointer of a file is over the limit: one over it stands for all that are
unfoldable pub capped : ℕ → ℕ
capped p = when p ≤? file_limit then p else (file_limit + 1)

-- the pool pointer of use u is that of its first use
unfoldable pub use_place : List ℕ → List ℕ → List ℕ → List ℕ → List ℕ → ℕ → ℕ → ℕ
use_place pool other words before sizes c u = capped (pointer_at pool other words before sizes c (first_same (spelling pool other words) u))
