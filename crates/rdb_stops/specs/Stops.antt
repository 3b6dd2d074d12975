-- The first index that passes a test, by blocks; where names end.
-- Assumes nothing.
use Rattle.std.specs.Prelude.{◌≡◌, Bool, true, List, ℕ, ◌+◌, ◌-◌, ◌*◌, ◌≤◌, length, get_or}
use Rattle.number.specs.Choice.{when◌then◌else◌, ◌≤?◌, ◌=?◌}
use Rattle.number.specs.Scan.{scan}

-- bytes of a block
abbrev pub block : ℕ
block = 64

-- blocks of a file, and one for its end
abbrev pub stop_count : ℕ
stop_count = 16385

-- the first index from q on that passes, or n, where there are n
abbrev pub first_from : (ℕ → Bool) → ℕ → ℕ → ℕ
first_from p n q = scan p (n - q) q

-- t has, from its place `base` on, those of the blocks from k on
pub record Stops (p : ℕ → Bool) (n : ℕ) (t : List ℕ) (base k : ℕ) : Type 0 where
  pub held : (b i : ℕ) → i ≡ base + b → k ≤ b → block * b ≤ n → get_or t i 0 ≡ first_from p n (block * b)

-- zero, or none of US-ASCII
unfoldable pub no_name : ℕ → Bool
no_name b = when b =? 0 then true else 0x80 ≤? b

unfoldable pub ends_name : List ℕ → ℕ → Bool
ends_name s i = no_name (get_or s i 0)

-- the first such byte from q on, or the end of the file
unfoldable pub name_end : List ℕ → ℕ → ℕ
name_end s q = first_from (ends_name s) (length s) q

-- t has those of the blocks from k on
abbrev pub Stopped : List ℕ → List ℕ → ℕ → Type 0
Stopped s t k = Stops (ends_name s) (length s) t 0 k
