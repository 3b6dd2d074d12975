-- Theorems on what adopting a file gives. `s` is the file as libxpt wrote it, whose directory starts at its field less 1; `b` is what is written for it.
-- Assumes nothing.
use Rattle.std.specs.Prelude.{◌≡◌, ◌⊎◌, ◌↔◌, List, ℕ, ◌+◌, ◌%◌, ◌≤◌, ◌<◌, length, get_or, take, Ok}
use Rattle.std.proofs.lemmas.List.Edits.{sets}
use Rattle.number.specs.Number.{be}
use Rattle.reading.specs.Got.{got}
use Rattle.head.specs.Header.{read_header}
use Rattle.reader.specs.Values.{Header, Annotation, Entry, Typelib, typelib}
use Rattle.reader.specs.Records.{Bytes, ShowsText, ShowsNotes, NotesRule, ShowsTypelib, pool_of}
use Rattle.reader.specs.Rules.{EntriesRule, PositionRule}
use Rattle.reader.specs.Reader.{decode}
use Rattle.meaning.specs.Normal.BigEndian.{bytes_of}
use Rattle.joining.specs.Outcome.{written}
use Rattle.genuine.specs.Start.{start_of}
use Rattle.adopt.specs.Adopt.{gap_of, adopt_of, adopt_answer, adopt_buffer}
use Rattle.adopt.specs.Placed.{fields_of, ShowsAt}

-- adopting s gives the bytes b
abbrev pub Adopts : List ℕ → List ℕ → Type 0
Adopts s b = adopt_of s (read_header s) ≡ written b

-- Document 01's layout is the case in which the directory stands where its field says.
abbrev pub Published : Type 0
Published = (s : List ℕ) (h : Header) (notes : List Annotation) (es : List (Entry ℕ)) → ShowsTypelib s (typelib h notes es) ↔ ShowsAt h.directory h.directory s (typelib h notes es)

-- the fields are those of a header that is shown
abbrev pub Told : Type 0
Told = (s : List ℕ) (limit d : ℕ) (h : Header) (notes : List Annotation) (es : List (Entry ℕ)) → ShowsAt limit d s (typelib h notes es) → h ≡ fields_of s

-- ---- the bytes: z of them are put in, all zero, at the start of the directory; three fields change, and no other byte

pub record Bytewise (s b : List ℕ) (cut z : ℕ) : Type 0 where
  pub few : z ≤ 3
  pub longer : length b ≡ length s + z
  pub size : be 4 b 20 ≡ be 4 s 20 + z
  pub pool : be 4 b 28 ≡ be 4 s 28 + z
  pub head : (i : ℕ) → i < 20 → get_or b i 0 ≡ get_or s i 0
  pub before : (i : ℕ) → 32 ≤ i → i < cut → get_or b i 0 ≡ get_or s i 0
  pub zeros : (i : ℕ) → cut ≤ i → i < cut + z → get_or b i 0 ≡ 0
  pub behind : (i : ℕ) → cut ≤ i → get_or b (i + z) 0 ≡ get_or s i 0

pub record Kept : Type 0 where
  -- with entries, the directory is moved to a multiple of 4
  pub entries : (s b : List ℕ) → Adopts s b → (be 2 s 18 ≡ 0 → ⊥) → Bytewise s b (start_of s) (gap_of (start_of s)) × (be 4 b 24 ≡ start_of s + gap_of (start_of s)) × (be 4 b 24 % 4 ≡ 0)
  -- without, nothing is put in
  pub none : (s b : List ℕ) → Adopts s b → be 2 s 18 ≡ 0 → Bytewise s b 32 0 × (be 4 b 24 ≡ 0)
  -- the pool is the same
  pub pool : (s b : List ℕ) → Adopts s b → pool_of (fields_of b) b ≡ pool_of (fields_of s) s
  -- where the directory needs no zero bytes only its field changes
  pub field : (s b : List ℕ) → Bytes s → Adopts s b → (be 2 s 18 ≡ 0) ⊎ (start_of s % 4 ≡ 0) → b ≡ sets s 24 (bytes_of 4 (be 4 b 24))

-- ---- the value: annotations and entries, and with them the meaning

pub record Shown : Type 0 where
  -- What s shows, with the directory at its field less 1, is what b shows, with annotations that end before the zero bytes.
  pub exactly : (s b : List ℕ) → Adopts s b → (notes : List Annotation) (es : List (Entry ℕ))
      → ShowsAt (start_of s) (start_of s) s (typelib (fields_of s) notes es) ↔ ShowsAt (start_of s) (be 4 b 24) b (typelib (fields_of b) notes es)
  -- So b shows it in document 01's layout,
  pub shown : (s b : List ℕ) → Adopts s b → (notes : List Annotation) (es : List (Entry ℕ))
      → ShowsAt (start_of s) (start_of s) s (typelib (fields_of s) notes es) → ShowsTypelib b (typelib (fields_of b) notes es)
  -- and shows nothing else, unless the last annotation starts before the directory of s and ends past its start, among the zero bytes of b.
  pub only : (s b : List ℕ) → Adopts s b → (notes : List Annotation) (es : List (Entry ℕ)) → ShowsTypelib b (typelib (fields_of b) notes es)
      → ShowsAt (start_of s) (start_of s) s (typelib (fields_of s) notes es) ⊎ ((e : ℕ) × ShowsNotes ShowsText b 32 notes e × (start_of s < e) × (e ≤ be 4 b 24))

-- ---- the check

pub record Accepts : Type 0 where
  -- the header of b has no fault
  pub placed : (s b : List ℕ) → Adopts s b → PositionRule (length b) (fields_of b)
  -- b is accepted with the value that s shows, where it obeys the rules,
  pub accepted : (s b : List ℕ) → Bytes s → Adopts s b → (notes : List Annotation) (es : List (Entry ℕ))
      → ShowsAt (start_of s) (start_of s) s (typelib (fields_of s) notes es) → NotesRule notes → EntriesRule (get_or s 17 0) (be 2 s 18) es
      → decode b ≡ got (typelib (fields_of b) notes es) (length b)
  -- and only so, unless its annotations end among the zero bytes
  pub only : (s b : List ℕ) → Adopts s b → (t : Typelib) (e : ℕ) → decode b ≡ got t e
      → (notes : List Annotation) × (es : List (Entry ℕ)) × (t ≡ typelib (fields_of b) notes es) × NotesRule notes × EntriesRule (get_or s 17 0) (be 2 s 18) es
      × (ShowsAt (start_of s) (start_of s) s (typelib (fields_of s) notes es) ⊎ ((m : ℕ) × ShowsNotes ShowsText b 32 notes m × (start_of s < m) × (m ≤ be 4 b 24)))

-- ---- the same of what the contract cites

-- an answer n says that the first n bytes of the buffer are such a b
abbrev pub Left : Type 0
Left = (s out : List ℕ) (n : ℕ) → adopt_answer s out ≡ Ok n → (length (take n (adopt_buffer s out)) ≡ n) × Adopts s (take n (adopt_buffer s out))
