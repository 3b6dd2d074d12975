-- These bytes show this value, where the directory stands at a place of its own: the layout of document 01 with that place as a parameter.
-- Assumes nothing.
use Rattle.std.specs.Prelude.{List, ℕ, ◌≤◌, get_or}
use Rattle.number.specs.Choice.{when◌then◌else◌, ◌=?◌}
use Rattle.number.specs.Number.{be}
use Rattle.reader.specs.Values.{Header, Typelib, typelib}
use Rattle.reader.specs.Records.{ShowsHeader, ShowsText, ShowsNotes, ShowsEntries, pool_of}

-- what the header's fields say
abbrev pub fields_of : List ℕ → Header
fields_of s = record { minor = get_or s 17 0; count = be 2 s 18; directory = be 4 s 24; pool = be 4 s 28 }

-- the annotations end at or before `limit`, the pool when there are no entries
unfoldable pub limit_at : ℕ → Header → ℕ
limit_at limit h = when h.count =? 0 then h.pool else limit

-- The entries stand at d, whatever the header's field says. Document 01's layout is the case where both are the field: `ShowsTypelib`.
abbrev pub ShowsAt : ℕ → ℕ → List ℕ → Typelib → Type 0
ShowsAt limit d s (typelib h notes es) =
    ShowsHeader s h × ((e : ℕ) × ShowsNotes ShowsText s 32 notes e × (e ≤ limit_at limit h)) × ShowsEntries s (pool_of h s) d h.count es
