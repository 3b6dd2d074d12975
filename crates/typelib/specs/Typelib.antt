-- A whole file, in the order of document 01: 1 to 8, with 29 and 30 for 6; annotations; the directory; descriptors; 18; 19.
-- Assumes nothing.
use Rattle.reading.specs.declared.Refusal.{Refusal}
use Rattle.std.specs.Prelude.{◌≡◌, List, ℕ, length, drop, Err, Ok, Result}
use Rattle.std.proofs.Math.Option.{Option}
use Rattle.reading.specs.Got.{Got, got, bad, next, many}
use Rattle.reading.specs.declared.Context.{Context}
use Rattle.head.specs.declared.Header.{Header}
use Rattle.head.specs.Header.{read_header}
use Rattle.head.specs.Annotation.{Annotation, read_annotations, annotation_limit}
use Rattle.directory.specs.Directory.{Row, read_directory}
use Rattle.descriptor.specs.Descriptor.{Descriptor}
use Rattle.typelib.specs.Entry.{Entry, read_own, entries_of, keys_in}
use Rattle.typelib.specs.Across.{above_in, read_across}

-- what is read before the descriptors
pub data Front : Type 0 where
  front : Header → List Annotation → List Row → Front

-- the pool runs to the file's end
unfoldable pub pool_of : Header → List ℕ → List ℕ
pool_of h s = drop h.pool s

-- what the reader of every record is given of the file
unfoldable pub context_of : Header → Context
context_of h = record { base = h.pool; minor = h.minor; count = h.count }

-- annotations and directory, of a file with the header h
unfoldable pub read_listed : Header → List ℕ → Got Front
read_listed h s =
    next (read_annotations (annotation_limit h) s) λ notes _.
    next (read_directory s (pool_of h s) h.count h.directory) λ rows _.
    got (front h notes rows) (length s)

unfoldable pub read_front : List ℕ → Got Front
read_front s =
    next (read_header s) λ h _.
    read_listed h s

-- the descriptors, in directory order
unfoldable pub read_descriptors : Header → List ℕ → Got (List (Option (Descriptor ℕ)))
read_descriptors h s = many (read_own (context_of h) s (pool_of h s)) h.count h.directory

pub data Typelib : Type 0 where
  typelib : Header → List Annotation → List (Entry ℕ) → Typelib

unfoldable pub header_of : Typelib → Header
header_of (typelib h notes es) = h

unfoldable pub notes_of : Typelib → List Annotation
notes_of (typelib h notes es) = notes

unfoldable pub entries_in : Typelib → List (Entry ℕ)
entries_in (typelib h notes es) = es

-- what follows the front
unfoldable pub read_behind : List ℕ → Front → ℕ → Got Typelib
read_behind s (front h notes rows) e =
    next (read_descriptors h s) λ ds _.
    next (read_across (keys_in (entries_of rows ds)) (above_in (entries_of rows ds)) h.count h.directory e) λ _ e.
    got (typelib h notes (entries_of rows ds)) e

unfoldable pub read_typelib : List ℕ → Got Typelib
read_typelib s =
    next (read_front s) λ f e.
    read_behind s f e

-- the answer of the check, with document 01's number and place for a refusal, n for an accepted file
unfoldable pub verdict_of : Got Typelib → Result ℕ Refusal
verdict_of (got t e) = Ok (header_of t).count
verdict_of (bad n q) = Err (record { no = n; place = q })

-- ---- the answers of parts of the code

-- the header h, or the refusal of what was read
unfoldable pub keep_head : {X : Type 0} → Header → Got X → Result Header Refusal
keep_head h (got x e) = Ok h
keep_head h (bad n q) = Err (record { no = n; place = q })

-- the header that was read
unfoldable pub front_of : Got Front → Result Header Refusal
front_of (got (front h notes rows) e) = Ok h
front_of (bad n q) = Err (record { no = n; place = q })

-- the number that was read
unfoldable pub count_of : Got ℕ → Result ℕ Refusal
count_of (got n e) = Ok n
count_of (bad n q) = Err (record { no = n; place = q })

-- the file s has the header h, and what stands before its descriptors was accepted
pub record Fronted (s : List ℕ) (h : Header) : Type 0 where
  pub notes : List Annotation
  pub rows : List Row
  pub end : ℕ
  pub read : read_front s ≡ got (front h notes rows) end
