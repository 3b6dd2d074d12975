-- Paths that the system can be asked about, and the last part of a path. The numbers of errors are those of errno.
-- Assumes nothing.
use Rattle.std.specs.Prelude.{◌≡◌, Bool, List, ℕ, ℤ, zero, suc, pos, length, get_or, take, drop, replicate, Option, None, Some, slice_index_or, IsUtf8, Err, Ok, Result, ⊤}
use Rattle.std.proofs.lemmas.List.Edits.{sets}
use Rattle.number.specs.Choice.{when◌then◌else◌, ◌<?◌, ◌=?◌}
use Rattle.number.specs.Scan.{some}

-- the bytes of the longest path: the system reads 4,096, of which the last is a zero
abbrev pub path_limit : ℕ
path_limit = 4095

unfoldable pub is_zero_at : List ℕ → ℕ → Bool
is_zero_at path i = get_or path i 0 =? 0

-- a byte of it is 0, where C would end it
unfoldable pub has_zero : List ℕ → Bool
has_zero path = some (is_zero_at path) (length path)

-- 2: there is no such file; 36: the name is too long; 22: it is no name
unfoldable pub judged : List ℕ → Result ⊤ ℤ
judged path =
    when length path =? 0 then Err (pos 2) else
    when path_limit <? length path then Err (pos 36) else
    when has_zero path then Err (pos 22) else
    Ok tt

-- why a path is not handed on: errno's number for what is no path; 84 where it is one and no UTF-8, which std's calls do not take
abbrev pub Unhanded : Result ⊤ ℤ → List ℕ → ℤ → Type 0
Unhanded (Ok _) path e = (e ≡ pos 84) × (IsUtf8 path → ⊥)
Unhanded (Err n) path e = e ≡ n

-- errno's number in an error of std's; 5, an error of the device, where it has none
abbrev pub errno_of : Option ℤ → ℤ
errno_of None = pos 5
errno_of (Some e) = e

-- the last of 4,096 bytes is 0
abbrev pub Ended : List ℕ → Type 0
Ended bytes = slice_index_or bytes 4095 1 ≡ 0

-- as many bytes as a path may have, and zeros behind: 4,096 together
unfoldable pub ended_of : List ℕ → List ℕ
ended_of path = sets (replicate 4096 0) 0 (take path_limit path)

-- after the last `/` of the first n bytes; 0 where there is none
unfoldable pub last_within : List ℕ → ℕ → ℕ
last_within path zero = 0
last_within path (suc n) = when get_or path n 0 =? 47 then suc n else last_within path n

-- where the last part of a path starts
unfoldable pub last_part : List ℕ → ℕ
last_part path = last_within path (length path)

-- the last part
unfoldable pub ending : List ℕ → List ℕ
ending path = drop (last_part path) path
