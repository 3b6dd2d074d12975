-- What a reader of what is left may rely on, as one claim over all files.
-- Assumes nothing.
use Rattle.std.specs.Prelude.{◌≡◌, ◌↔◌, List, [], ℕ, ◌<◌, length}
use Rattle.std.proofs.Math.Option.{none}
use Rattle.reading.specs.Got.{got}
use Rattle.typelib.specs.Entry.{Entry, keys_in, descriptor_in}
use Rattle.typelib.specs.Across.{above_in}
use Rattle.head.specs.Annotation.{Annotation}
use Rattle.directory.specs.Directory.{Row}
use Rattle.typelib.specs.Typelib.{front, Typelib, header_of, entries_in, read_front, read_typelib}
use Rattle.rules.specs.Rules.{iid_of}
use Rattle.mend.specs.Cycle.{Returns}
use Rattle.mend.specs.Left.{own_read, left_of, readable, Report, reports_of, left, read_left}
use Rattle.mend.specs.Cleared.{cleared}

-- entry k, counted from 0, of the entries es, from which refused descriptors were taken, and what is left of it in t
pub record Mended (t : Typelib) (es : List (Entry ℕ)) (k : ℕ) : Type 0 where
  -- key and IID stay
  pub key : keys_in (entries_in t) k ≡ keys_in es k
  pub iid : iid_of (entries_in t) k ≡ iid_of es k
  -- the descriptor of an entry that lies on a cycle is gone, and every other stays as it is
  pub opened : Returns (above_in es) k → descriptor_in (entries_in t) k ≡ none
  pub kept : (Returns (above_in es) k → ⊥) → descriptor_in (entries_in t) k ≡ descriptor_in es k

-- what is left of the file s, and what is reported
pub record Mending (s : List ℕ) (t : Typelib) (rs : List Report) : Type 0 where
  -- its annotations and its directory
  pub notes : List Annotation
  pub rows : List Row
  pub end : ℕ
  pub front_read : read_front s ≡ got (front (header_of t) notes rows) end
  -- its entries with the descriptors that are not refused, each read by itself
  pub entries : List (Entry ℕ)
  pub entries_read : entries ≡ readable (header_of t) s rows
  pub count : length entries ≡ length (entries_in t)
  pub own : (k : ℕ) → k < length entries → descriptor_in entries k ≡ left_of (own_read (header_of t) s k)
  pub each : (k : ℕ) → k < length entries → Mended t entries k
  pub reports : rs ≡ reports_of (header_of t) s entries

pub record Mends : Type 0 where
  -- the report is empty exactly when the file is accepted, and what is left is then the file
  pub accepted : (s : List ℕ) (t : Typelib) (e : ℕ) → (read_typelib s ≡ got t e) ↔ (read_left s ≡ got (left t []) e)
  -- the file with the reported descriptors cleared is accepted, with what is left as its value
  pub accepts : (s : List ℕ) (t : Typelib) (rs : List Report) (e : ℕ) → read_left s ≡ got (left t rs) e → read_typelib (cleared s rs) ≡ got t (length s)
  -- no other descriptor changed, and no key and no IID
  pub changed : (s : List ℕ) (t : Typelib) (rs : List Report) (e : ℕ) → read_left s ≡ got (left t rs) e → Mending s t rs
