-- Document 01, "Header" and "Positions": refusals 1 to 8, in number order; 29 and 30 stand where 6 stood.
-- Assumes nothing.
use Rattle.reading.specs.declared.Refusal.{Refusal}
use Rattle.std.specs.Prelude.{Bool, true, List, [], ◌∷◌, ℕ, ◌+◌, ◌*◌, ◌%◌, length, get_or, Err, Ok, Result}
use Rattle.number.specs.Limits.{file_limit, entry_limit, entry_width}
use Rattle.number.specs.Choice.{when◌then◌else◌, ◌<?◌, ◌=?◌, ◌≠?◌}
use Rattle.number.specs.Number.{be}
use Rattle.number.specs.Scan.{scan}
use Rattle.reading.specs.Got.{Got, got, bad}
use Rattle.head.specs.declared.Header.{Header}

-- XPCOM, a line feed, TypeLib, 0d 0a 1a
abbrev pub magic : List ℕ
magic =
    0x58 ∷ 0x50 ∷ 0x43 ∷ 0x4f ∷ 0x4d ∷ 0x0a ∷ 0x54 ∷ 0x79 ∷ 0x70 ∷ 0x65 ∷ 0x4c ∷ 0x69 ∷ 0x62 ∷ 0x0d ∷ 0x0a ∷ 0x1a ∷ []

unfoldable pub off_magic : List ℕ → ℕ → Bool
off_magic s i = get_or s i 0 ≠? get_or magic i 0

-- the first byte that differs from the magic, or 16
unfoldable pub magic_end : List ℕ → ℕ
magic_end s = scan (off_magic s) 16 0

-- the newest minor version
abbrev pub newest : ℕ
newest = 2

unfoldable pub unknown_minor : ℕ → Bool
unknown_minor m = newest <? m

-- the refusal of a file of `given` bytes whose length field says `said`, or 0: 29 where fewer are given, 30 where more (document 02, #102)
unfoldable pub length_fault : ℕ → ℕ → ℕ
length_fault given said =
    when given <? said then 29 else
    when said <? given then 30 else
    0

-- the pool offset is at least 33 and at most the file length
unfoldable pub misplaced_pool : ℕ → ℕ → Bool
misplaced_pool pool len = when pool <? 33 then true else len <? pool

-- With n = 0 the directory offset is 0. Otherwise it is a multiple of 4, at least 33, and directory + 28n is at most the pool offset.
unfoldable pub misplaced_directory : ℕ → ℕ → ℕ → Bool
misplaced_directory n d pool =
    when n =? 0 then d ≠? 0 else
    when d % 4 ≠? 0 then true else
    when d <? 33 then true else
    pool <? d + entry_width * n

-- 8: the pool is tested first
unfoldable pub read_positions : List ℕ → Got Header
read_positions s =
    when misplaced_pool (be 4 s 28) (length s) then bad 8 28 else
    when misplaced_directory (be 2 s 18) (be 4 s 24) (be 4 s 28) then bad 8 24 else
    got (record { minor = get_or s 17 0; count = be 2 s 18; directory = be 4 s 24; pool = be 4 s 28 }) 32

-- 4 and 5, 29 or 30, 7 and 8
unfoldable pub read_fields : List ℕ → Got Header
read_fields s =
    when get_or s 16 0 ≠? 1 then bad 4 16 else
    when unknown_minor (get_or s 17 0) then bad 5 17 else
    when length_fault (length s) (be 4 s 20) ≠? 0 then bad (length_fault (length s) (be 4 s 20)) 20 else
    when entry_limit <? be 2 s 18 then bad 7 18 else
    read_positions s

-- 1 to 3, and those
unfoldable pub read_header : List ℕ → Got Header
read_header s =
    when length s <? 32 then bad 1 (length s) else
    when file_limit <? length s then bad 2 file_limit else
    when magic_end s <? 16 then bad 3 (magic_end s) else
    read_fields s

-- the answer of the code that reads a header
unfoldable pub head_of : Got Header → Result Header Refusal
head_of (got h e) = Ok h
head_of (bad n q) = Err (record { no = n; place = q })
