-- The files of a pile, fetched and added one by one: one file at a time is in the store for sure, and one pile in the two buffers.
-- Assumes nothing.
use Rattle.std.specs.Prelude.{◌≡◌, Bool, List, [], ◌∷◌, ◌++◌, ℕ, zero, suc, ◌+◌, ◌≤◌}
use Rattle.number.specs.Limits.{file_limit}
use Rattle.kept.specs.declared.Kept.{Kept}
use Rattle.kept.specs.Table.{Tidy}
use Rattle.kept.specs.Room.{with_room}
use Rattle.kept.specs.Files.{kept_file}
use Rattle.tasks.specs.Tasks.{argument}
use Rattle.store.specs.declared.Loaded.{Loaded}
use Rattle.store.specs.declared.Loaded.TheVariants as loaded
use Rattle.store.specs.Loading.{is_barred, Loads}
use Rattle.pile.specs.declared.Pile.{Pile}
use Rattle.pile.specs.declared.Added.{Added}
use Rattle.pile.specs.declared.Added.TheVariants.{Grown, Refused, Full}
use Rattle.pile.specs.Pile.{no_files, Turn, turn, added, add_all, piled}
use Rattle.piling.specs.declared.Went.{Went}
use Rattle.piling.specs.declared.Went.TheVariants as went
use Rattle.piling.specs.declared.Gathered.{Gathered}

-- what is kept, its table and its bytes
pub record Store : Type 0 where
  pub kept : Kept
  pub rows : List ℕ
  pub bytes : List ℕ

abbrev pub store_of : Kept → List ℕ → List ℕ → Store
store_of kept rows bytes = record { kept = kept; rows = rows; bytes = bytes }

-- the bytes that are kept under a name
abbrev pub file_in : Store → List ℕ → List ℕ
file_in s name = kept_file name s.kept s.rows s.bytes

-- room is made for one file more, and the file of this name is asked for
abbrev pub Asks : Bool → List ℕ → Store → Loaded → Store → Type 0
Asks batch name s file t = Loads (is_barred batch name) name (with_room s.kept 1) s.rows s.bytes (record { kept = t.kept; file = file }) t.rows t.bytes

-- The first k files of the words ws are fetched in their order, from the store s to t. fs are their bytes, each as it was kept under its name when its turn came.
unfoldable pub Fetches : Bool → List (List ℕ) → ℕ → Store → List (List ℕ) → Store → Type 0
Fetches batch ws zero s fs t = (fs ≡ []) × (t ≡ s)
Fetches batch ws (suc k) s fs t =
    (u : Store) × ((gs : List (List ℕ)) × (Fetches batch ws k s gs u × (Asks batch (argument (k + 1) ws) u loaded.Kept t × (fs ≡ gs ++ (file_in t (argument (k + 1) ws) ∷ [])))))

-- ---- one file

-- the file of this name was asked for; where it is there it was added, else the buffers are as they were
unfoldable pub WentOn : Bool → List ℕ → Pile → Store → List ℕ → List ℕ → Went → Store → List ℕ → List ℕ → Type 0
WentOn batch name p s one other (went.Added a) t first second = Asks batch name s loaded.Kept t × (turn a first second ≡ added p (file_in t name) one other)
WentOn batch name p s one other (went.Wanting file) t first second = Asks batch name s file t × ((first ≡ one) × (second ≡ other))

-- ---- all of them

-- before the first file
abbrev pub begun : List ℕ → List ℕ → Turn
begun one other = turn (Grown no_files) one other

-- a pile is not longer than a buffer
abbrev pub Short : Added → Type 0
Short (Grown p) = p.length ≤ file_limit
Short (Refused x) = Unit {0}
Short Full = Unit {0}

abbrev pub ShortEnd : Went → Type 0
ShortEnd (went.Added a) = Short a
ShortEnd (went.Wanting file) = Unit {0}

-- a pile that ended has all n files
abbrev pub Whole : ℕ → ℕ → Added → Type 0
Whole n k (Grown p) = k ≡ n
Whole n k (Refused x) = Unit {0}
Whole n k Full = Unit {0}

-- the k-th file is not to be had; those before it are in the pile
pub record Stopped (batch : Bool) (ws : List (List ℕ)) (k : ℕ) (s : Store) (one other : List ℕ) (file : Loaded) (t : Store) (first second : List ℕ) : Type 0 where
  pub before : ℕ
  pub next : k ≡ before + 1
  pub files : List (List ℕ)
  pub store : Store
  pub fetched : Fetches batch ws before s files store
  pub asked : Asks batch (argument k ws) store file t
  pub pile : Pile
  pub added : turn (Grown pile) first second ≡ add_all (begun one other) files

-- the first k of n files were fetched and answered as a pile; fewer than n where that is a refusal
pub record Answered (batch : Bool) (ws : List (List ℕ)) (n k : ℕ) (s : Store) (one other : List ℕ) (a : Added) (t : Store) (first second : List ℕ) : Type 0 where
  pub files : List (List ℕ)
  pub fetched : Fetches batch ws k s files t
  pub answer : turn a first second ≡ piled files one other
  pub whole : Whole n k a

unfoldable pub Ends : Bool → List (List ℕ) → ℕ → ℕ → Store → List ℕ → List ℕ → Went → Store → List ℕ → List ℕ → Type 0
Ends batch ws n k s one other (went.Added a) t first second = Answered batch ws n k s one other a t first second
Ends batch ws n k s one other (went.Wanting file) t first second = Stopped batch ws k s one other file t first second

-- n files of the command with the words ws are linked in their order
pub record Links (batch : Bool) (ws : List (List ℕ)) (n : ℕ) (s : Store) (one other : List ℕ) (r : Gathered) (rows bytes first second : List ℕ) : Type 0 where
  pub tidy : Tidy rows r.kept
  pub few : r.count ≤ n
  pub short : ShortEnd r.went
  pub ends : Ends batch ws n r.count s one other r.went (store_of r.kept rows bytes) first second
