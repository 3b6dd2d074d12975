-- These bytes show this value: layout only. Where each field lies, where pointers lead, how many records there are; no rule on a value
-- (but two: a namespace that is present is not empty, and a text is well-formed, as its length counts characters), no order of tests.
-- `s` is the pool, but in the definitions on entries and files it is the file; a record stands at p and ends before e.
-- Assumes nothing.
use Rattle.std.specs.Prelude.{◌≡◌, ◌⊎◌, List, [], ◌∷◌, ℕ, ◌+◌, ◌-◌, ◌*◌, ◌≤◌, ◌<◌, length, get_or}
use Rattle.std.proofs.Math.Option.{Option, none, some}
use Rattle.number.specs.Limits.{entry_width}
use Rattle.number.specs.Number.{be}
use Rattle.number.specs.Part.{part}
use Rattle.key.specs.Key.{key}
use Rattle.head.specs.declared.Header.{Header}
use Rattle.head.specs.Header.{magic}
use Rattle.head.specs.Annotation.{annotation_limit}
use Rattle.head.specs.Shows.{ShowsText, ShowsNotes}
use Rattle.types.specs.Prefix.{tag_of, StringTag}
use Rattle.types.specs.Types.{Ty, simple, interface, interface_is, array, sized}
use Rattle.method.specs.Parameter.{Param, param}
use Rattle.method.specs.Method.{signature, Method, method}
use Rattle.descriptor.specs.Constant.{Constant, constant}
use Rattle.descriptor.specs.Descriptor.{Descriptor, descriptor}
use Rattle.typelib.specs.Entry.{Entry, entry, no_entry}
use Rattle.typelib.specs.Across.{parent_index}
use Rattle.typelib.specs.Typelib.{Typelib, typelib, pool_of}

-- ---- bytes, numbers, runs

-- a list of bytes; past its end stand zeros
pub record Bytes (s : List ℕ) : Type 0 where
  pub small : (i : ℕ) → get_or s i 0 < 256

pub record ShowsByte (s : List ℕ) (p b : ℕ) : Type 0 where
  pub inside : p < length s
  pub value : get_or s p 0 ≡ b

-- a number of k bytes
pub record ShowsField (k : ℕ) (s : List ℕ) (p v : ℕ) : Type 0 where
  pub inside : p + k ≤ length s
  pub value : be k s p ≡ v

-- records in turn
abbrev pub Run : {X : Type 0} → (ℕ → X → ℕ → Type 0) → ℕ → List X → ℕ → Type 0
Run P p [] e = p ≡ e
Run P p (x ∷ xs) e = (m : ℕ) × P p x m × Run P m xs e

-- ---- names

-- the pool pointer q leads to the bytes w and a zero byte
pub record ShowsWord (s : List ℕ) (q : ℕ) (w : List ℕ) : Type 0 where
  pub from : 1 ≤ q
  pub inside : q - 1 + length w < length s
  pub bytes : part s (q - 1) (q - 1 + length w) ≡ w
  pub closed : get_or s (q - 1 + length w) 0 ≡ 0

-- a pointer of four bytes to a word
pub record ShowsName (s : List ℕ) (p : ℕ) (w : List ℕ) : Type 0 where
  pub pointer : ℕ
  pub field : ShowsField 4 s p pointer
  pub word : ShowsWord s pointer w

-- ---- types, parameters, methods

-- the tags of each kind of type; the file's minor plays no part in the layout
abbrev pub SimpleTag : ℕ → Type 0
SimpleTag t = (t ≤ 17) ⊎ StringTag t

abbrev pub InterfaceTag : ℕ → Type 0
InterfaceTag t = t ≡ 18

abbrev pub InterfaceIsTag : ℕ → Type 0
InterfaceIsTag t = t ≡ 19

abbrev pub ArrayTag : ℕ → Type 0
ArrayTag t = t ≡ 20

abbrev pub SizedTag : ℕ → Type 0
SizedTag t = (21 ≤ t) × (t ≤ 22)

abbrev pub ShowsType : List ℕ → ℕ → Ty ℕ → ℕ → Type 0
ShowsType s p (simple b) e = ShowsByte s p b × SimpleTag (tag_of b) × (e ≡ p + 1)
ShowsType s p (interface b i) e = ShowsByte s p b × InterfaceTag (tag_of b) × ShowsField 2 s (p + 1) i × (e ≡ p + 3)
ShowsType s p (interface_is b a) e = ShowsByte s p b × InterfaceIsTag (tag_of b) × ShowsByte s (p + 1) a × (e ≡ p + 2)
ShowsType s p (array b x y t) e = ShowsByte s p b × ArrayTag (tag_of b) × ShowsByte s (p + 1) x × ShowsByte s (p + 2) y × ShowsType s (p + 3) t e
ShowsType s p (sized b x y) e = ShowsByte s p b × SizedTag (tag_of b) × ShowsByte s (p + 1) x × ShowsByte s (p + 2) y × (e ≡ p + 3)

abbrev pub ShowsParam : List ℕ → ℕ → Param ℕ → ℕ → Type 0
ShowsParam s p (param f t) e = ShowsByte s p f × ShowsType s (p + 1) t e

-- flags, name pointer, argument count, arguments, result
abbrev pub ShowsMethod : List ℕ → ℕ → Method ℕ → ℕ → Type 0
ShowsMethod s p (method f w (signature ps r)) e =
    ShowsByte s p f × ShowsName s (p + 1) w × ShowsByte s (p + 5) (length ps) × ((m : ℕ) × Run (ShowsParam s) (p + 6) ps m × ShowsParam s m r e)

-- ---- constants, descriptors

-- the bytes of a value: two for the types 1 and 5, four for 2 and 6
abbrev pub Stored : ℕ → ℕ → Type 0
Stored k n = (((k ≡ 1) ⊎ (k ≡ 5)) × (n ≡ 2)) ⊎ (((k ≡ 2) ⊎ (k ≡ 6)) × (n ≡ 4))

abbrev pub ShowsConstant : List ℕ → ℕ → Constant → ℕ → Type 0
ShowsConstant s p (constant w k v) e = ShowsName s p w × ShowsByte s (p + 4) k × ((n : ℕ) × Stored k n × ShowsField n s (p + 5) v × (e ≡ p + 5 + n))

-- parent, method count, methods, constant count, constants, flags
abbrev pub ShowsDescriptor : List ℕ → ℕ → Descriptor ℕ → ℕ → Type 0
ShowsDescriptor s p (descriptor up ms ks f) e =
    ShowsField 2 s p (parent_index up)
    × ShowsField 2 s (p + 2) (length ms)
    × ((a : ℕ) × Run (ShowsMethod s) (p + 4) ms a
    × ShowsField 2 s a (length ks)
    × ((b : ℕ) × Run (ShowsConstant s) (a + 2) ks b
    × ShowsByte s b f × (e ≡ b + 1)))

-- ---- a directory entry at p of the file s

-- absent, or a word that is not empty: the default namespace has no bytes, so one that is present has some
abbrev pub ShowsSpace : List ℕ → ℕ → List ℕ → Type 0
ShowsSpace pool q v = ((q ≡ 0) × (v ≡ [])) ⊎ (ShowsWord pool q v × (1 ≤ length v))

abbrev pub ShowsOwn : List ℕ → ℕ → Option (Descriptor ℕ) → Type 0
ShowsOwn pool q none = q ≡ 0
ShowsOwn pool q (some d) = (1 ≤ q) × ((e : ℕ) × ShowsDescriptor pool (q - 1) d e)

-- IID, name pointer, namespace pointer, descriptor pointer
abbrev pub ShowsEntry : List ℕ → List ℕ → ℕ → Entry ℕ → Type 0
ShowsEntry s pool p (entry (key v w) i d) =
    (be 16 s p ≡ i) × ShowsWord pool (be 4 s (p + 16)) w × ShowsSpace pool (be 4 s (p + 20)) v × ShowsOwn pool (be 4 s (p + 24)) d

-- every entry of the directory at d
pub record ShowsEntries (s pool : List ℕ) (d n : ℕ) (es : List (Entry ℕ)) : Type 0 where
  pub count : length es ≡ n
  pub each : (k : ℕ) → k < n → ShowsEntry s pool (d + entry_width * k) (get_or es k no_entry)

-- ---- a file

-- magic, major, minor, interface count, file length, directory offset, pool offset
pub record ShowsHeader (s : List ℕ) (h : Header) : Type 0 where
  pub inside : 32 ≤ length s
  pub magic_bytes : (i : ℕ) → i < 16 → get_or s i 0 ≡ get_or magic i 0
  pub major : get_or s 16 0 ≡ 1
  pub minor : get_or s 17 0 ≡ h.minor
  pub count : be 2 s 18 ≡ h.count
  pub size : be 4 s 20 ≡ length s
  pub directory : be 4 s 24 ≡ h.directory
  pub pool : be 4 s 28 ≡ h.pool

-- header; annotations from 32 on, their texts as T says, which end at or before the directory, the pool when there is none; entries, whose pointers lead into the pool
abbrev pub ShowsTypelibOf : (List ℕ → ℕ → List ℕ → ℕ → Type 0) → List ℕ → Typelib → Type 0
ShowsTypelibOf T s (typelib h notes es) =
    ShowsHeader s h × ((e : ℕ) × ShowsNotes T s 32 notes e × (e ≤ annotation_limit h)) × ShowsEntries s (pool_of h s) h.directory h.count es

abbrev pub ShowsTypelib : List ℕ → Typelib → Type 0
ShowsTypelib = ShowsTypelibOf ShowsText
