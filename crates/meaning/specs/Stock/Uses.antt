-- Document 02, "Store each name once": the uses of names in the order of the pool, and what is stored of them.
-- Assumes nothing.
use Rattle.std.specs.Prelude.{Bool, true, List, [], ◌∷◌, ◌++◌, map, ℕ, ◌+◌, get_or}
use Rattle.std.proofs.Math.Option.{Option, none, some}
use Rattle.number.specs.Limits.{entry_width}
use Rattle.number.specs.Choice.{when◌then◌else◌, ◌=?◌}
use Rattle.key.specs.Key.{Key, key}
use Rattle.key.specs.First.{first_same}
use Rattle.reader.specs.Values.{method_name, constant_name, Descriptor, descriptor, Entry, entry}
use Rattle.meaning.specs.Normal.Size.{sum, descriptor_size, name_size}

-- ---- uses

-- method names, then constant names
unfoldable pub names_of : {R : Type 0} → Descriptor R → List (List ℕ)
names_of (descriptor up ms ks f) = map method_name ms ++ map constant_name ks

unfoldable pub own_words : {R : Type 0} → Option (Descriptor R) → List (List ℕ)
own_words none = []
own_words (some d) = names_of d

-- the default namespace has no bytes
unfoldable pub space_words : List ℕ → List (List ℕ)
space_words [] = []
space_words (b ∷ v) = (b ∷ v) ∷ []

-- name; namespace if any
unfoldable pub key_words : Key → List (List ℕ)
key_words (key v w) = w ∷ space_words v

-- those of its key; method names; constant names
unfoldable pub entry_words : {R : Type 0} → Entry R → List (List ℕ)
entry_words (entry k i d) = key_words k ++ own_words d

-- the word of every use of a name, in the order of the pool; uses are counted from 0
unfoldable pub words_of : {R : Type 0} → List (Entry R) → List (List ℕ)
words_of [] = []
words_of (u ∷ us) = entry_words u ++ words_of us

-- ---- what is stored

-- use u as a key, so that the first use of a word is the first of its key
abbrev pub use_key : List (List ℕ) → ℕ → Key
use_key ws u = key [] (get_or ws u [])

-- the lowest use whose word is that of u
unfoldable pub first_use : List (List ℕ) → ℕ → ℕ
first_use ws u = first_same (use_key ws) u

-- `kept` tells of each use whether its word is stored: the words of all uses are
unfoldable pub always : ℕ → Bool
always u = true

-- those of first uses are
unfoldable pub at_first : List (List ℕ) → ℕ → Bool
at_first ws u = first_use ws u =? u

unfoldable pub kept_size : (ℕ → Bool) → ℕ → List ℕ → ℕ
kept_size kept u w = when kept u then name_size w else 0

-- what is stored of these words, u being the first use
unfoldable pub stored_size : (ℕ → Bool) → ℕ → List (List ℕ) → ℕ
stored_size kept u [] = 0
stored_size kept u (w ∷ ws) = kept_size kept u w + stored_size kept (u + 1) ws

-- of the words of all uses, each once
unfoldable pub stock_size : List (List ℕ) → ℕ
stock_size ws = stored_size (at_first ws) 0 ws

-- ---- the length of a file

unfoldable pub own_body : {R : Type 0} → Option (Descriptor R) → ℕ
own_body none = 0
own_body (some d) = descriptor_size d

-- of one entry, in the directory and in the pool, apart from names
unfoldable pub body_length : {R : Type 0} → Entry R → ℕ
body_length (entry k i d) = entry_width + own_body d

-- of the normal form of these entries
unfoldable pub normal_length : {R : Type 0} → List (Entry R) → ℕ
normal_length us = 36 + sum body_length us + stock_size (words_of us)
