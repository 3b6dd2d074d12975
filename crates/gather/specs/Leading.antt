-- Tables of pointers that lead to the keys and the descriptors of entries: into one pool or, with `file_limit` more, into the other.
-- Assumes nothing.
use Rattle.std.specs.Prelude.{◌≡◌, ◌⊎◌, List, [], ℕ, ◌+◌, ◌-◌, ◌≤◌, ◌<◌, length, get_or, None, Option as Maybe, Some}
use Rattle.std.proofs.Math.Option.{Option, none, some}
use Rattle.number.specs.Limits.{file_limit, own_limit, row_limit}
use Rattle.number.specs.Choice.{when◌then◌else◌, ◌<?◌, ◌=?◌}
use Rattle.key.specs.Key.{Key, key_space, key_name}
use Rattle.reader.specs.Values.{Descriptor, Entry, entry_key, entry_descriptor, no_entry}
use Rattle.reader.specs.Records.{ShowsDescriptor}
use Rattle.meaning.specs.Meaning.{map_descriptor}
use Rattle.meaning.specs.Normal.Size.{sum}
use Rattle.meaning.specs.Refs.{AllRefs}
use Rattle.writing.specs.Source.{Known, InTable}
use Rattle.names.specs.Uses.{Spelt}
use Rattle.meaning.specs.Stock.Uses.{names_of, own_words, own_body, body_length}
use Rattle.places.specs.Places.{InOrder}
use Rattle.places.specs.Noted.{start_use, Noted}
use Rattle.iids.specs.Cells.{cell}
use Rattle.gather.specs.declared.Passed.{Passed}
use Rattle.gather.specs.Words.{NamedDescriptor, Means, PutWords}

-- ---- keys

-- a namespace that v leads to; the default has no bytes, and may have no pointer
abbrev pub SpaceLed : List ℕ → List ℕ → ℕ → List ℕ → Type 0
SpaceLed pool other v x = ((v ≡ 0) × (x ≡ [])) ⊎ Means pool other v x

-- w and v lead to its name and its namespace
pub record KeyLed (pool other : List ℕ) (w v : ℕ) (k : Key) : Type 0 where
  pub name : Means pool other w (key_name k)
  pub space : SpaceLed pool other v (key_space k)

-- ---- descriptors

-- a reference of a file that has `shift` rows before its own, counted through both files
unfoldable pub shifted : ℕ → ℕ → ℕ
shifted shift r = shift + r

-- at p a pool shows a descriptor of a file with `shift` rows before its own: d is that one with its references counted through both files
pub record Bodied (pool : List ℕ) (p shift : ℕ) (d : Option (Descriptor ℕ)) : Type 0 where
  pub own : Descriptor ℕ
  pub end : ℕ
  pub known : Known (ShowsDescriptor pool) NamedDescriptor p own end
  pub references : AllRefs (InTable shift) own
  pub few : length (names_of own) ≤ own_limit + own_limit
  pub same : d ≡ some (map_descriptor (shifted shift) own)

-- b leads to the descriptor d, 0 to none; the first file has n rows
pub record OwnLed (pool other : List ℕ) (n b : ℕ) (d : Option (Descriptor ℕ)) : Type 0 where
  pub absent : b ≡ 0 → d ≡ none
  pub here : (b ≡ 0 → ⊥) → b ≤ file_limit → Bodied pool (b - 1) 0 d
  pub there : file_limit < b → Bodied other (b - file_limit - 1) n d

-- b leads to one
pub record OwnStands (pool other : List ℕ) (b : ℕ) : Type 0 where
  pub rows : ℕ
  pub own : Option (Descriptor ℕ)
  pub led : OwnLed pool other rows b own

-- the words of a descriptor's names, from use u on, and its size
pub record PutOwn (pool other t v : List ℕ) (u : ℕ) (r : Passed) (d : Option (Descriptor ℕ)) : Type 0 where
  pub next : r.next ≡ u + length (own_words d)
  pub size : r.size ≡ own_body d
  pub words : PutWords (Means pool other) t v u (own_words d)

-- ---- entries

-- the places q of three tables lead to the name, the namespace and the descriptor of entry q, of c entries
pub record Leading (pool other : List ℕ) (n : ℕ) (names spaces bodies : List ℕ) (us : List (Entry ℕ)) (c : ℕ) : Type 0 where
  pub count : c ≡ length us
  pub few : c ≤ row_limit
  pub small : length pool ≤ file_limit
  pub other_small : length other ≤ file_limit
  pub keys : (q : ℕ) → q < c → KeyLed pool other (get_or names q 0) (get_or spaces q 0) (entry_key (get_or us q no_entry))
  pub owns : (q : ℕ) → q < c → OwnLed pool other n (get_or bodies q 0) (entry_descriptor (get_or us q no_entry))

-- there are such entries
pub record LedEntries (pool other names spaces bodies : List ℕ) (c : ℕ) : Type 0 where
  pub rows : ℕ
  pub entries : List (Entry ℕ)
  pub leading : Leading pool other rows names spaces bodies entries c

-- n uses and c entries stand in the tables
pub record Gathered (us : List (Entry ℕ)) (pool other words starts before sizes : List ℕ) (n c : ℕ) : Type 0 where
  pub noted : Noted us pool other words before sizes n c
  pub spelt : Spelt pool other words n
  pub order : InOrder before c n
  pub starting : (i : ℕ) → i < c → get_or starts i 0 ≡ start_use us i

-- they do, or the entries are longer than a file may be even without their names
abbrev pub Answered : List (Entry ℕ) → List ℕ → List ℕ → List ℕ → List ℕ → List ℕ → List ℕ → ℕ → Maybe ℕ → Type 0
Answered us pool other words starts before sizes c None = file_limit < 36 + sum body_length us
Answered us pool other words starts before sizes c (Some n) = Gathered us pool other words starts before sizes n c

-- ---- pointers of rows, of which the first n are the first file's

-- the pool pointer p of row r as one into either pool; 0 is none
unfoldable pub led_to : ℕ → ℕ → ℕ → ℕ
led_to n r p =
    when p =? 0 then 0 else
    when r <? n then p else
    file_limit + p

-- of row q of a view, where `pointers` tells one of every row
unfoldable pub led_row : ℕ → List ℕ → List ℕ → ℕ → ℕ
led_row n pointers t q = led_to n (cell t q) (cell pointers (cell t q))

-- of the row that h tells, counted from 1; none where h is 0
unfoldable pub led_held : ℕ → List ℕ → ℕ → ℕ
led_held n own h = when h =? 0 then 0 else led_to n (h - 1) (cell own (h - 1))

-- of the row that row q of a view has its descriptor from
unfoldable pub led_body : ℕ → List ℕ → List ℕ → List ℕ → ℕ → ℕ
led_body n own t holders q = led_held n own (cell holders (cell t q))

-- the pointers of c rows are in a file
pub record PointersIn (pointers t : List ℕ) (c : ℕ) : Type 0 where
  pub few : c ≤ row_limit
  pub row : (q : ℕ) → q < c → cell t q < row_limit
  pub small : (q : ℕ) → q < c → cell pointers (cell t q) ≤ file_limit

pub record HeldIn (own : List ℕ) (h : ℕ) : Type 0 where
  pub row : h ≤ row_limit
  pub small : (h ≡ 0 → ⊥) → cell own (h - 1) ≤ file_limit

pub record HoldersIn (own t holders : List ℕ) (c : ℕ) : Type 0 where
  pub few : c ≤ row_limit
  pub row : (q : ℕ) → q < c → cell t q < row_limit
  pub held : (q : ℕ) → q < c → HeldIn own (cell holders (cell t q))
