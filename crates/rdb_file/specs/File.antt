-- Document 001, the header; request #105: 2 as before, 31, then the root map and everything reachable.
-- Assumes nothing.
use Rattle.reading.specs.declared.Refusal.{Refusal}
use Rattle.std.specs.Prelude.{Bool, List, [], ◌∷◌, ℕ, length, get_or, Err, Ok, Result}
use Rattle.number.specs.Choice.{when◌then◌else◌, ◌<?◌, ◌≠?◌}
use Rattle.number.specs.Limits.{file_limit}
use Rattle.number.specs.Number.{le}
use Rattle.number.specs.Scan.{some}
use Rattle.reading.specs.Got.{Got, got, bad, next}
use Rattle.rdb_map.specs.Map.{read_map}
use Rattle.rdb_interface.specs.declared.SetCount.{SetCount}
use Rattle.rdb_file.specs.Visit.{module_limit, Sound, each, visit_entity}

-- "UNOIDL\xFF"
unfoldable pub magic : List ℕ
magic = 0x55 ∷ 0x4e ∷ 0x4f ∷ 0x49 ∷ 0x44 ∷ 0x4c ∷ 0xff ∷ []

unfoldable pub off_magic : List ℕ → ℕ → Bool
off_magic s i = get_or s i 0 ≠? get_or magic i 0

-- Offset of root Map
unfoldable pub root_at : List ℕ → ℕ
root_at s = le 4 s 8

-- UInt32 number of entries of root Map
unfoldable pub root_count : List ℕ → ℕ
root_count s = le 4 s 12

-- the root map, and what its entries lead to
unfoldable pub read_root : SetCount → List ℕ → Got Sound
read_root m s =
    when length s <? root_at s then bad 32 8 else
    next (read_map s (root_at s) 0 (root_count s) (root_at s)) λ es _.
    each (visit_entity m module_limit s) es (root_count s)

-- the file; the header's version byte is 0
unfoldable pub read_file : SetCount → List ℕ → Got Sound
read_file m s =
    when file_limit <? length s then bad 2 file_limit else
    when length s <? 16 then bad 31 0 else
    when some (off_magic s) 7 then bad 31 0 else
    when get_or s 7 0 ≠? 0 then bad 31 7 else
    read_root m s

-- the answer of the check: accepted, with how many entries were visited, or the first refusal
unfoldable pub verdict_of : Got Sound → Result ℕ Refusal
verdict_of (got x v) = Ok v
verdict_of (bad n q) = Err (record { no = n; place = q })
