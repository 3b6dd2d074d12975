-- Whether a file that the check refuses is as libxpt writes it: with its directory counted from 1 it passes the front of the check.
-- Assumes nothing.
use Rattle.std.specs.Prelude.{Bool, true, false, List, ℕ, get_or}
use Rattle.number.specs.Choice.{when◌then◌else◌, ◌≠?◌}
use Rattle.number.specs.Number.{be}
use Rattle.reading.specs.Got.{Got, got, bad}
use Rattle.head.specs.declared.Header.{Header}
use Rattle.head.specs.Header.{read_header}
use Rattle.typelib.specs.Typelib.{read_listed}
use Rattle.genuine.specs.Start.{start_of, misplaced_start}

unfoldable pub passes : {X : Type 0} → Got X → Bool
passes (got x e) = true
passes (bad n q) = false

-- its header, with the offset at which the directory starts
abbrev pub start_header : List ℕ → Header
start_header s = record { minor = get_or s 17 0; count = be 2 s 18; directory = start_of s; pool = be 4 s 28 }

-- its positions, annotations and directory, so read
unfoldable pub lists_genuine : List ℕ → Bool
lists_genuine s = when misplaced_start (be 2 s 18) (start_of s) (be 4 s 28) then false else passes (read_listed (start_header s) s)

-- of a file whose header the check refuses with 8 at 24
unfoldable pub genuine_of : List ℕ → Got Header → Bool
genuine_of s (got h e) = false
genuine_of s (bad n q) =
    when n ≠? 8 then false else
    when q ≠? 24 then false else
    lists_genuine s

unfoldable pub is_genuine : List ℕ → Bool
is_genuine s = genuine_of s (read_header s)
