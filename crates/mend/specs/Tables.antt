-- Tables of what is known of each entry, and what they tell of it.
-- Assumes nothing.
use Rattle.std.specs.Prelude.{List, ℕ, ◌+◌, ◌*◌, ◌≤◌, ◌<◌, get_or}
use Rattle.std.proofs.Math.Option.{Option, none, some}
use Rattle.number.specs.Limits.{entry_width}
use Rattle.number.specs.Choice.{when◌then◌else◌, ◌=?◌}
use Rattle.reading.specs.Got.{Got, got, bad}
use Rattle.reading.specs.declared.Context.{Context}
use Rattle.key.specs.First.{Filled}
use Rattle.descriptor.specs.Descriptor.{Descriptor}
use Rattle.typelib.specs.Entry.{read_own}
use Rattle.typelib.specs.Across.{above}
use Rattle.mend.specs.declared.Mark.{Mark}
use Rattle.mend.specs.Cycle.{returns}
use Rattle.mend.specs.Left.{Report, report}

-- ---- one descriptor

-- a refusal's number and 1 more, 0 where it is accepted; its place; the index above the entry
unfoldable pub mark_of : Got (Option (Descriptor ℕ)) → Mark
mark_of (got o e) = record { number = 0; place = 0; up = above o }
mark_of (bad n q) = record { number = n + 1; place = q; up = 0 }

-- that of entry k of a directory at d
unfoldable pub own_mark : Context → List ℕ → List ℕ → ℕ → ℕ → Mark
own_mark c s pool d k = mark_of (read_own c s pool (d + entry_width * k))

unfoldable pub own_number : Context → List ℕ → List ℕ → ℕ → ℕ → ℕ
own_number c s pool d k = (own_mark c s pool d k).number

unfoldable pub own_place : Context → List ℕ → List ℕ → ℕ → ℕ → ℕ
own_place c s pool d k = (own_mark c s pool d k).place

unfoldable pub own_up : Context → List ℕ → List ℕ → ℕ → ℕ → ℕ
own_up c s pool d k = (own_mark c s pool d k).up

-- ---- n of them, in three tables

pub record Judged (c : Context) (s pool : List ℕ) (d n : ℕ) (numbers places ups : List ℕ) : Type 0 where
  pub number : Filled numbers n (own_number c s pool d)
  pub place : Filled places n (own_place c s pool d)
  pub up : Filled ups n (own_up c s pool d)

-- every parent is an entry, or none
pub record Parents (ups : List ℕ) (n : ℕ) : Type 0 where
  pub each : (k : ℕ) → k < n → get_or ups k 0 ≤ n

unfoldable pub up_in : List ℕ → ℕ → ℕ
up_in ups k = get_or ups k 0

-- what is reported of entry k: its number and 1 more, 0 for nothing
unfoldable pub number_in : List ℕ → List ℕ → ℕ → ℕ → ℕ
number_in numbers ups n k = when get_or numbers k 0 =? 0 then (when returns (up_in ups) n k then 20 else 0) else get_or numbers k 0

-- and its place
unfoldable pub place_in : List ℕ → List ℕ → ℕ → ℕ → ℕ
place_in numbers places d k = when get_or numbers k 0 =? 0 then d + entry_width * k else get_or places k 0

-- the number of a report, so told
unfoldable pub number_for : Option Report → ℕ
number_for none = 0
number_for (some (report i n q)) = n + 1
