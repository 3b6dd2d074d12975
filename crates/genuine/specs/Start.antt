-- Where the directory of a typelib starts that libxpt wrote: its offset counts from 1, and the directory follows the annotations at any alignment.
-- Assumes nothing.
use Rattle.std.specs.Prelude.{Bool, true, false, List, ℕ, ◌+◌, ◌-◌, ◌*◌}
use Rattle.number.specs.Limits.{entry_width}
use Rattle.number.specs.Choice.{when◌then◌else◌, ◌<?◌, ◌=?◌}
use Rattle.number.specs.Number.{be}

-- where the directory starts: its field counts from 1
unfoldable pub start_of : List ℕ → ℕ
start_of s = be 4 s 24 - 1

-- whether a directory of n entries may not start there: document 01's rule apart from the multiple of 4; with no entries any field is taken
unfoldable pub misplaced_start : ℕ → ℕ → ℕ → Bool
misplaced_start n start pool =
    when n =? 0 then false else
    when start <? 33 then true else
    pool <? start + entry_width * n
