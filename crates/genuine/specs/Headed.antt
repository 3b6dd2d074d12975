-- What a header says that the check refuses with 8 at 24 at most: document 01, "Header" and "Positions" but for the directory, as facts.
-- Assumes nothing.
use Rattle.std.specs.Prelude.{◌≡◌, List, ℕ, ◌≤◌, ◌<◌, length, get_or}
use Rattle.number.specs.Limits.{file_limit, entry_limit}
use Rattle.number.specs.Number.{be}
use Rattle.head.specs.Header.{magic, newest}

pub record Headed (s : List ℕ) : Type 0 where
  pub long : 32 ≤ length s
  pub short : length s ≤ file_limit
  pub magic_at : (i : ℕ) → i < 16 → get_or s i 0 ≡ get_or magic i 0
  pub major_at : get_or s 16 0 ≡ 1
  pub known : get_or s 17 0 ≤ newest
  pub length_at : be 4 s 20 ≡ length s
  pub few : be 2 s 18 ≤ entry_limit
  pub low : 33 ≤ be 4 s 28
  pub inside : be 4 s 28 ≤ length s
