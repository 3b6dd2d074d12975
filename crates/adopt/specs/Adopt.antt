-- Typelibs as libxpt writes them: the directory offset counts from 1, and the directory follows the annotations at any alignment; all else is document
-- 01's. What adopting such a file gives: its bytes in the published layout, the answer, and every byte of the output buffer.
-- Assumes nothing.
use Rattle.std.specs.Prelude.{List, ◌++◌, ℕ, ◌+◌, ◌-◌, ◌%◌, length, take, drop, replicate, Result}
use Rattle.number.specs.Limits.{file_limit}
use Rattle.number.specs.Choice.{when◌then◌else◌, ◌<?◌, ◌=?◌, ◌≠?◌}
use Rattle.number.specs.Number.{be}
use Rattle.number.specs.Part.{part}
use Rattle.reading.specs.Got.{Got, got, bad}
use Rattle.reading.specs.declared.Refusal.{Refusal}
use Rattle.head.specs.declared.Header.{Header}
use Rattle.head.specs.Header.{read_header}
use Rattle.genuine.specs.Start.{start_of, misplaced_start}
use Rattle.meaning.specs.Normal.BigEndian.{bytes_of}
use Rattle.joining.specs.Outcome.{Outcome, refused, written, refusal, in_room, after, normalised_as}

-- the zero bytes from d to the next multiple of 4
unfoldable pub gap_of : ℕ → ℕ
gap_of d = (4 - d % 4) % 4

-- the header of s with z more bytes before its pool, and this directory offset
unfoldable pub head_bytes : List ℕ → ℕ → ℕ → List ℕ
head_bytes s z directory = take 20 s ++ bytes_of 4 (length s + z) ++ bytes_of 4 directory ++ bytes_of 4 (be 4 s 28 + z)

-- s with that header, and z zero bytes put in at `cut`
unfoldable pub moved_bytes : List ℕ → ℕ → ℕ → ℕ → List ℕ
moved_bytes s cut z directory = head_bytes s z directory ++ part s 32 cut ++ replicate z 0 ++ drop cut s

-- s in the published layout
unfoldable pub adopted : List ℕ → List ℕ
adopted s =
    when be 2 s 18 =? 0 then moved_bytes s 32 0 0 else
    moved_bytes s (start_of s) (gap_of (start_of s)) (start_of s + gap_of (start_of s))

-- 26, or the bytes
unfoldable pub fitted : List ℕ → Outcome Refusal
fitted bytes = when file_limit <? length bytes then refused (refusal 26 0) else written bytes

-- 8 at 24 where the directory may not start there
unfoldable pub moved_of : List ℕ → Outcome Refusal
moved_of s = when misplaced_start (be 2 s 18) (start_of s) (be 4 s 28) then refused (refusal 8 24) else fitted (adopted s)

-- the check's refusals of the header stand, but for 8 at 24: the directory is judged as libxpt counts
unfoldable pub adopt_of : List ℕ → Got Header → Outcome Refusal
adopt_of s (got h e) = moved_of s
adopt_of s (bad n q) =
    when n ≠? 8 then refused (refusal n q) else
    when q ≠? 24 then refused (refusal n q) else
    moved_of s

unfoldable pub adopt_in : ℕ → List ℕ → Outcome Refusal
adopt_in room s = in_room refusal room (adopt_of s (read_header s))

-- the answer, and the buffer afterwards
unfoldable pub adopt_answer : List ℕ → List ℕ → Result ℕ Refusal
adopt_answer s out = normalised_as (adopt_in (length out) s)

unfoldable pub adopt_buffer : List ℕ → List ℕ → List ℕ
adopt_buffer s out = after (adopt_in (length out) s) out
