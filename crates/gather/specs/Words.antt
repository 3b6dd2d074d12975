-- Words noted in a table of uses, by their pool pointers.
-- Assumes nothing.
use Rattle.std.specs.Prelude.{◌≡◌, List, [], map, ℕ, ◌+◌, ◌<◌, length, get_or}
use Rattle.reader.specs.Layout.{Spells, Ends, Rows}
use Rattle.reader.specs.Values.{method_name, constant_name, Descriptor, descriptor}
use Rattle.reader.specs.Rules.{Identifier, All}
use Rattle.meaning.specs.Normal.Size.{descriptor_size}
use Rattle.meaning.specs.Stock.Uses.{names_of}
use Rattle.names.specs.Uses.{word_of, Led}
use Rattle.gather.specs.declared.Passed.{Passed}

-- the name, which f gives, is an identifier
abbrev pub Named : {X : Type 0} → (X → List ℕ) → X → Type 0
Named f x = Identifier (f x)

-- its names are identifiers
abbrev pub NamedDescriptor : Descriptor ℕ → Type 0
NamedDescriptor (descriptor up ms ks f) = All (Named method_name) ms × All (Named constant_name) ks

-- w leads to the word x, in one pool or the other
pub record Means (pool other : List ℕ) (w : ℕ) (x : List ℕ) : Type 0 where
  pub led : Led pool other w
  pub word : word_of pool other w ≡ x

-- w is a pointer to the word x of this pool, and `base`
pub record Based (pool : List ℕ) (base w : ℕ) (x : List ℕ) : Type 0 where
  pub pointer : ℕ
  pub is : w ≡ base + pointer
  pub spells : Spells pool pointer x

-- v is t with these words put from place u on, of each what P says; before u nothing changes
pub record PutWords (P : ℕ → List ℕ → Type 0) (t v : List ℕ) (u : ℕ) (ws : List (List ℕ)) : Type 0 where
  pub long : length v ≡ length t
  pub kept : (k : ℕ) → k < u → get_or v k 0 ≡ get_or t k 0
  pub each : (k : ℕ) → k < length ws → P (get_or v (u + k) 0) (get_or ws k [])

-- of n records from `at` on, which end at r, the names
pub record PutNames {X : Type 0} (P : ℕ → X → ℕ → Type 0) (name : X → List ℕ) (n at : ℕ) (pool : List ℕ) (base : ℕ) (t v : List ℕ) (u r : ℕ) : Type 0 where
  pub ends : Ends (Rows P n at) r
  pub long : length v ≡ length t
  pub each : (xs : List X) (e : ℕ) → Rows P n at xs e → PutWords (Based pool base) t v u (map name xs)

-- the names of each descriptor that P shows, and its size
pub record PutDescriptor (P : Descriptor ℕ → ℕ → Type 0) (pool : List ℕ) (base : ℕ) (t v : List ℕ) (u : ℕ) (r : Passed) : Type 0 where
  pub next : (d : Descriptor ℕ) (e : ℕ) → P d e → r.next ≡ u + length (names_of d)
  pub size : (d : Descriptor ℕ) (e : ℕ) → P d e → r.size ≡ descriptor_size d
  pub words : (d : Descriptor ℕ) (e : ℕ) → P d e → PutWords (Based pool base) t v u (names_of d)
