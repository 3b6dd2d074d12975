-- Document 02, #110: what is left of a file whose front holds and whose keys are unique, and what is reported.
-- Assumes nothing.
use Rattle.std.specs.Prelude.{Bool, List, [], ◌∷◌, ℕ, ◌+◌, ◌*◌, length, get_or}
use Rattle.std.proofs.Math.Option.{Option, none, some}
use Rattle.number.specs.Limits.{entry_width}
use Rattle.number.specs.Choice.{when◌then◌else◌, ◌<?◌}
use Rattle.reading.specs.Got.{Got, got, bad, next}
use Rattle.head.specs.declared.Header.{Header}
use Rattle.head.specs.Annotation.{Annotation}
use Rattle.directory.specs.Directory.{Row}
use Rattle.descriptor.specs.Descriptor.{Descriptor}
use Rattle.typelib.specs.Entry.{Entry, entry, read_own, entries_of, no_entry, keys_in}
use Rattle.typelib.specs.Across.{above_in, first_repeated}
use Rattle.typelib.specs.Typelib.{Front, front, Typelib, typelib, pool_of, context_of, read_front}
use Rattle.bridge.specs.Span.{span}
use Rattle.mend.specs.Cycle.{returns}

-- ---- descriptors, each by itself

-- that of entry k, counted from 0
unfoldable pub own_read : Header → List ℕ → ℕ → Got (Option (Descriptor ℕ))
own_read h s k = read_own (context_of h) s (pool_of h s) (h.directory + entry_width * k)

-- one that is refused is not there
unfoldable pub left_of : Got (Option (Descriptor ℕ)) → Option (Descriptor ℕ)
left_of (got d e) = d
left_of (bad n q) = none

-- the entries with the descriptors that are not refused
unfoldable pub readable : Header → List ℕ → List Row → List (Entry ℕ)
readable h s rows = entries_of rows (span (λ k. left_of (own_read h s k)) h.count)

-- ---- cycles among these

unfoldable pub on_cycle : List (Entry ℕ) → ℕ → Bool
on_cycle es k = returns (above_in es) (length es) k

unfoldable pub opened : Entry ℕ → Entry ℕ
opened (entry k i d) = entry k i none

unfoldable pub left_at : List (Entry ℕ) → ℕ → Entry ℕ
left_at es k = when on_cycle es k then opened (get_or es k no_entry) else get_or es k no_entry

-- those on a cycle become unresolved
unfoldable pub left_in : List (Entry ℕ) → List (Entry ℕ)
left_in es = span (left_at es) (length es)

-- ---- the report

-- index, counted from 1, number, place
pub data Report : Type 0 where
  report : ℕ → ℕ → ℕ → Report

unfoldable pub index_of : Report → ℕ
index_of (report i n q) = i

unfoldable pub number_of : Report → ℕ
number_of (report i n q) = n

unfoldable pub place_of : Report → ℕ
place_of (report i n q) = q

-- a refusal, as a report of the entry of index i; else what else there is to report
unfoldable pub fault_of : ℕ → Got (Option (Descriptor ℕ)) → Option Report → Option Report
fault_of i (got d e) o = o
fault_of i (bad n q) o = some (report i n q)

-- of entry k: its own descriptor's refusal; 19 at the entry where it lies on a cycle
unfoldable pub report_of : Header → List ℕ → List (Entry ℕ) → ℕ → Option Report
report_of h s es k = fault_of (k + 1) (own_read h s k) (when on_cycle es k then some (report (k + 1) 19 (h.directory + entry_width * k)) else none)

unfoldable pub prepend : {X : Type 0} → Option X → List X → List X
prepend none xs = xs
prepend (some x) xs = x ∷ xs

-- those that are there, in order
unfoldable pub present : {X : Type 0} → List (Option X) → List X
present [] = []
present (o ∷ os) = prepend o (present os)

unfoldable pub reports_of : Header → List ℕ → List (Entry ℕ) → List Report
reports_of h s es = present (span (report_of h s es) h.count)

-- ---- the whole

pub data Left : Type 0 where
  left : Typelib → List Report → Left

-- 18, whatever the descriptors are like
unfoldable pub left_behind : List ℕ → Header → List Annotation → List (Entry ℕ) → ℕ → Got Left
left_behind s h notes es e =
    when first_repeated (keys_in es) h.count <? h.count then bad 18 (h.directory + entry_width * first_repeated (keys_in es) h.count) else
    got (left (typelib h notes (left_in es)) (reports_of h s es)) e

unfoldable pub behind_front : List ℕ → Front → ℕ → Got Left
behind_front s (front h notes rows) e = left_behind s h notes (readable h s rows) e

-- all checks up to the directory, then 18; the rest is reported
unfoldable pub read_left : List ℕ → Got Left
read_left s =
    next (read_front s) λ f e.
    behind_front s f e
