-- Document 02, #110: the answer, every byte of the output buffer, and every number of the three lists.
-- Assumes nothing.
use Rattle.salvage.specs.declared.Remains.{Remains}
use Rattle.std.specs.Prelude.{◌≡◌, Bool, true, List, [], map, ℕ, length, Err, Ok, Result}
use Rattle.std.proofs.lemmas.List.Edits.{sets}
use Rattle.number.specs.Limits.{entry_limit}
use Rattle.number.specs.Choice.{when◌then◌else◌, ◌<?◌}
use Rattle.reading.specs.Got.{Got, got, bad}
use Rattle.reading.specs.declared.Refusal.{Refusal}
use Rattle.reader.specs.Values.{entries_in}
use Rattle.meaning.specs.Meaning.{meaning}
use Rattle.meaning.specs.Facts.Link.{normal_entries}
use Rattle.meaning.specs.Stock.Uses.{normal_length}
use Rattle.joining.specs.Outcome.{Outcome, refused, written, refusal, encoded, in_room, after}
use Rattle.mend.specs.Left.{Report, index_of, number_of, place_of, Left, left, read_left}

-- the lengths of the three lists and of the output buffer
pub record Room : Type 0 where
  pub indexes : ℕ
  pub numbers : ℕ
  pub places : ℕ
  pub bytes : ℕ

-- one of the lists is under 1,024
unfoldable pub too_short : ℕ → ℕ → ℕ → Bool
too_short indexes numbers places =
    when indexes <? entry_limit then true else
    when numbers <? entry_limit then true else
    places <? entry_limit

-- 38, report lists too short
unfoldable pub in_lists : Room → Outcome Refusal → Outcome Refusal
in_lists r o = when too_short r.indexes r.numbers r.places then refused (refusal 38 entry_limit) else o

-- the front's refusals (1 to 5, 7 to 13, 29 and 30; 13 of a name or namespace) and 18; then 38; then 26 and 27, of what is left
unfoldable pub salvage_of : Room → Got Left → Outcome Refusal
salvage_of r (bad n q) = refused (refusal n q)
salvage_of r (got (left t rs) e) = in_lists r (in_room refusal r.bytes (encoded refusal (normal_entries normal_length (meaning (entries_in t)))))

unfoldable pub reports_in : Got Left → List Report
reports_in (bad n q) = []
reports_in (got (left t rs) e) = rs

-- the answer: the length of what is written, and the number of reports
unfoldable pub salvaged_as : Outcome Refusal → List Report → Result Remains Refusal
salvaged_as (refused x) rs = Err x
salvaged_as (written bytes) rs = Ok (record { length = length bytes; changed = length rs })

-- a list afterwards: what `part` tells of each report stands at its front, and the rest is as it was; on a refusal all is as it was
unfoldable pub listed : Outcome Refusal → (Report → ℕ) → List Report → List ℕ → List ℕ
listed (refused x) part rs before = before
listed (written bytes) part rs before = sets before 0 (map part rs)

-- ---- of a file and what is lent

-- what is lent: the three lists and the output buffer
pub record Lent : Type 0 where
  pub indexes : List ℕ
  pub numbers : List ℕ
  pub places : List ℕ
  pub out : List ℕ

unfoldable pub room_in : Lent → Room
room_in l = record { indexes = length l.indexes; numbers = length l.numbers; places = length l.places; bytes = length l.out }

unfoldable pub outcome_of : List ℕ → Lent → Outcome Refusal
outcome_of s l = salvage_of (room_in l) (read_left s)

-- what salvaging the file s answers, and leaves in what is lent
pub record Salvages (s : List ℕ) (before : Lent) (r : Result Remains Refusal) (after_it : Lent) : Type 0 where
  pub answer : r ≡ salvaged_as (outcome_of s before) (reports_in (read_left s))
  pub out : after_it.out ≡ after (outcome_of s before) before.out
  pub indexes : after_it.indexes ≡ listed (outcome_of s before) index_of (reports_in (read_left s)) before.indexes
  pub numbers : after_it.numbers ≡ listed (outcome_of s before) number_of (reports_in (read_left s)) before.numbers
  pub places : after_it.places ≡ listed (outcome_of s before) place_of (reports_in (read_left s)) before.places
