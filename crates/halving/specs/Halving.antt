-- Request #104: an IID is looked for in the sorted directory by halving it, zero IIDs included, and the entries looked at are counted.
-- Assumes nothing.
use Rattle.std.specs.declared.cmp.Ordering.TheVariants.{Equal, Greater, Less}
use Rattle.std.specs.declared.cmp.Ordering.{Ordering}
use Rattle.std.specs.Prelude.{List, ℕ, zero, suc, ◌+◌, ◌-◌, ◌/◌, length}
use Rattle.std.proofs.Math.Option.{Option, none, some}
use Rattle.number.specs.Choice.{when◌then◌else◌, ◌<?◌, ◌=?◌}
use Rattle.reader.specs.Values.{Entry}
use Rattle.reader.specs.Rules.{iid_of}
use Rattle.halving.specs.declared.Looked.{Looked}
use Rattle.halving.specs.declared.Looked.TheVariants.{Found, None}

-- the middle of the entries low to high, the lower of two
unfoldable pub middle : ℕ → ℕ → ℕ
middle low high = (low + high) / 2

-- k entries more were looked at
unfoldable pub after : ℕ → Looked → Looked
after k (Found i n) = Found i (k + n)
after k (None n) = None (k + n)

-- v is looked for among g low to g high: a match stops; else the half that can hold it is kept, without the entry looked at.
-- The first number bounds the looks; the number of entries is never used up.
unfoldable pub halve : ℕ → (ℕ → ℕ) → ℕ → ℕ → ℕ → Looked
halve zero g v low high = None 0
halve (suc left) g v low high =
    when high <? low then None 0 else
    when g (middle low high) =? v then Found (middle low high) 1 else
    after 1 (halve left g v
    (when g (middle low high) <? v then middle low high + 1 else low)
    (when g (middle low high) <? v then high else middle low high - 1))

-- the IID of the entry with index i, counted from 1
abbrev pub iid_at : List (Entry ℕ) → ℕ → ℕ
iid_at es i = iid_of es (i - 1)

-- the IID v among all entries
unfoldable pub iid_looked : List (Entry ℕ) → ℕ → Looked
iid_looked es v = halve (length es) (iid_at es) v 1 (length es)

-- how many entries were looked at
unfoldable pub looks_in : Looked → ℕ
looks_in (Found i k) = k
looks_in (None k) = k

-- the index that was found
unfoldable pub index_in : Looked → Option ℕ
index_in (Found i k) = some i
index_in (None k) = none

-- a before b, after it, or the same
unfoldable pub compare_numbers : ℕ → ℕ → Ordering
compare_numbers a b =
    when a <? b then Less else
    when b <? a then Greater else
    Equal
