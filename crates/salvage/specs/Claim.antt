-- What a reader may rely on of what salvaging writes and reports, as one claim over all files and all that may be lent.
-- Assumes nothing.
use Rattle.std.specs.Prelude.{◌≡◌, false, ◌↔◌, List, [], ℕ, ◌≤◌, length}
use Rattle.reading.specs.Got.{got, Accepted}
use Rattle.reader.specs.Values.{Typelib, entries_in}
use Rattle.reader.specs.Records.{Bytes}
use Rattle.reader.specs.Reader.{decode}
use Rattle.meaning.specs.Meaning.{meaning}
use Rattle.meaning.specs.Facts.Facts.{MeanSame}
use Rattle.meaning.specs.Facts.Union.{union}
use Rattle.joining.specs.Outcome.{written}
use Rattle.link.specs.Outcome.{normal_of, normalise_in}
use Rattle.link.specs.Theorems.{FormOf}
use Rattle.mend.specs.Left.{Report, left, read_left}
use Rattle.mend.specs.Cleared.{cleared}
use Rattle.mend.specs.Claim.{Mending}
use Rattle.salvage.specs.Salvage.{too_short, in_lists, reports_in, Lent, room_in, outcome_of}

-- of the file s, of which b was written
pub record Written (s b : List ℕ) : Type 0 where
  -- what is left, and what is reported
  pub typelib : Typelib
  pub reports : List Report
  pub end : ℕ
  pub left_is : read_left s ≡ got (left typelib reports) end
  -- every key and every IID is there; a descriptor is gone exactly where it was refused by itself, or lies on a cycle of those that were not
  pub changed : Mending s typelib reports
  -- b is the normal form of the file with the reported descriptor pointers cleared
  pub normal : normal_of (decode (cleared s reports)) ≡ written b
  -- it is accepted, its own normal form, and means what is left
  pub form : FormOf (union (meaning (entries_in typelib))) b
  pub means : MeanSame (union (meaning (entries_in typelib))) (meaning (entries_in typelib))

pub record SalvageClaim : Type 0 where
  -- the report is empty exactly when the file is accepted, and what is left is then the file
  pub accepted : (s : List ℕ) → Bytes s → (t : Typelib) (e : ℕ) → (decode s ≡ got t e) ↔ (read_left s ≡ got (left t []) e)
  -- then salvaging gives what normalising does, where the lists are long enough
  pub as_normal : (s : List ℕ) → Bytes s → Accepted (decode s) → (l : Lent) → (outcome_of s l ≡ in_lists (room_in l) (normalise_in (length l.out) s)) × (reports_in (read_left s) ≡ [])
  pub writes : (s b : List ℕ) → Bytes s → (l : Lent) → outcome_of s l ≡ written b → Written s b
  -- what was written, salvaged again, comes out as it is, with nothing to report
  pub again : (s b : List ℕ) → Bytes s → (l m : Lent) → outcome_of s l ≡ written b
      → too_short (length m.indexes) (length m.numbers) (length m.places) ≡ false → length b ≤ length m.out
      → (outcome_of b m ≡ written b) × (reports_in (read_left b) ≡ [])
