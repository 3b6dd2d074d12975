-- What an accepted header says of its file: document 01, "Header" and "Positions", as facts.
-- Assumes nothing.
use Rattle.std.specs.Prelude.{◌≡◌, false, ◌⊎◌, List, ℕ, ◌+◌, ◌*◌, ◌%◌, ◌≤◌, ◌<◌, length, get_or}
use Rattle.number.specs.Limits.{file_limit, entry_limit, entry_width}
use Rattle.number.specs.Number.{be}
use Rattle.head.specs.declared.Header.{Header}
use Rattle.head.specs.Header.{magic, unknown_minor}

-- where a directory of n entries may stand, before the pool
abbrev pub Placed : ℕ → ℕ → ℕ → Type 0
Placed n d pool = ((n ≡ 0) × (d ≡ 0)) ⊎ ((0 < n) × (d % 4 ≡ 0) × (33 ≤ d) × (d + entry_width * n ≤ pool))

pub record HeaderAt (s : List ℕ) (h : Header) : Type 0 where
  pub long : 32 ≤ length s
  pub short : length s ≤ file_limit
  pub magic_at : (i : ℕ) → i < 16 → get_or s i 0 ≡ get_or magic i 0
  pub major_at : get_or s 16 0 ≡ 1
  pub minor_at : h.minor ≡ get_or s 17 0
  pub count_at : h.count ≡ be 2 s 18
  pub length_at : be 4 s 20 ≡ length s
  pub directory_at : h.directory ≡ be 4 s 24
  pub pool_at : h.pool ≡ be 4 s 28
  pub known : unknown_minor h.minor ≡ false
  pub few : h.count ≤ entry_limit
  pub low : 33 ≤ h.pool
  pub inside : h.pool ≤ length s
  pub placed : Placed h.count h.directory h.pool
  pub fits : h.directory + entry_width * h.count ≤ h.pool
