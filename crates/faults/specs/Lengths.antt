-- #102: whether a file was cut or added to is told exactly, and 6 is never given.
-- Assumes nothing.
use Rattle.reading.specs.declared.Refusal.{Refusal}
use Rattle.std.specs.Prelude.{◌≡◌, ◌↔◌, List, ℕ, ◌≤◌, ◌<◌, length, get_or, Err, Result}
use Rattle.number.specs.Limits.{file_limit}
use Rattle.number.specs.Number.{be}
use Rattle.head.specs.Header.{magic, newest}
use Rattle.reader.specs.Reader.{check_of}

-- the file passes 1 to 5
pub record Versioned (s : List ℕ) : Type 0 where
  pub long : 32 ≤ length s
  pub short : length s ≤ file_limit
  pub magical : (i : ℕ) → i < 16 → get_or s i 0 ≡ get_or magic i 0
  pub major : get_or s 16 0 ≡ 1
  pub minor : get_or s 17 0 ≤ newest

abbrev pub refused : ℕ → ℕ → Result ℕ Refusal
refused n q = Err (record { no = n; place = q })

-- 29 exactly where fewer bytes are given than the length field says, and 30 exactly where more, both at 20, whatever the rest of the file holds
pub record LengthsTold : Type 0 where
  pub cut : (s : List ℕ) (q : ℕ) → (check_of s ≡ refused 29 q) ↔ ((q ≡ 20) × (Versioned s × (length s < be 4 s 20)))
  pub padded : (s : List ℕ) (q : ℕ) → (check_of s ≡ refused 30 q) ↔ ((q ≡ 20) × (Versioned s × (be 4 s 20 < length s)))
  pub never_six : (s : List ℕ) (q : ℕ) → check_of s ≡ refused 6 q → ⊥
