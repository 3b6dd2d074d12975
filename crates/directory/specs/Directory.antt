-- Document 01, "Directory entry". For each entry: 10; the name's 11 or 13; the namespace's 13 or 11; 12.
-- Assumes nothing.
use Rattle.std.specs.Prelude.{Bool, false, List, [], ℕ, ◌+◌, ◌-◌}
use Rattle.number.specs.Limits.{entry_width}
use Rattle.number.specs.Choice.{when◌then◌else◌, ◌≤?◌, ◌=?◌}
use Rattle.number.specs.Number.{be}
use Rattle.reading.specs.Got.{Got, got, bad, next, many}
use Rattle.name.specs.Name.{follow, follow_space}
use Rattle.key.specs.Key.{Key, key}

-- an entry as the directory has it: IID, as one number of 16 bytes; key; descriptor pointer
pub data Row : Type 0 where
  row : ℕ → Key → ℕ → Row

-- no entry: what a list of entries gives past its end
unfoldable pub no_row : Row
no_row = row 0 (key [] []) 0

unfoldable pub row_iid : Row → ℕ
row_iid (row i k q) = i

unfoldable pub row_key : Row → Key
row_key (row i k q) = k

unfoldable pub row_pointer : Row → ℕ
row_pointer (row i k q) = q

-- IIDs never fall, and only zero IIDs may be equal: j must not follow i
unfoldable pub falls : ℕ → ℕ → Bool
falls i j = when i =? 0 then false else j ≤? i

-- the same of the entry at p and the one before it, in a directory that starts at d
unfoldable pub out_of_order : List ℕ → ℕ → ℕ → Bool
out_of_order s d p = when p =? d then false else falls (be 16 s (p - entry_width)) (be 16 s p)

-- a descriptor needs a nonzero IID
unfoldable pub lacks_iid : ℕ → ℕ → Bool
lacks_iid i q = when q =? 0 then false else i =? 0

-- the entry at p of the file s
unfoldable pub read_row : List ℕ → List ℕ → ℕ → ℕ → Got Row
read_row s pool d p =
    when out_of_order s d p then bad 10 p else
    next (follow pool (p + 16) (be 4 s (p + 16))) λ w _.
    next (follow_space pool (p + 20) (be 4 s (p + 20))) λ v _.
    when lacks_iid (be 16 s p) (be 4 s (p + 24)) then bad 12 (p + 24) else
    got (row (be 16 s p) (key v w) (be 4 s (p + 24))) (p + entry_width)

-- n entries from d on
unfoldable pub read_directory : List ℕ → List ℕ → ℕ → ℕ → Got (List Row)
read_directory s pool n d = many (read_row s pool d) n d
