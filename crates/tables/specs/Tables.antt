-- What the tables of a link hold.
-- Assumes nothing.
use Rattle.std.specs.declared.cmp.Ordering.TheVariants.{Less}
use Rattle.std.specs.Prelude.{◌≡◌, ◌⊎◌, List, ℕ, suc, ◌+◌, ◌≤◌, ◌<◌, length, get_or}
use Rattle.number.specs.Limits.{entry_limit}
use Rattle.key.specs.Key.{Key, compare_keys}
use Rattle.key.specs.First.{first_same}

-- K tells the key of each row; of N rows the first n are those of the first file. Keys are unique in each file
pub record TwoFiles (K : ℕ → Key) (n N : ℕ) : Type 0 where
  pub few : n ≤ entry_limit
  pub low : n ≤ N
  pub high : N ≤ n + entry_limit
  pub first : (i j : ℕ) → i < j → j < n → K i ≡ K j → ⊥
  pub second : (i j : ℕ) → n ≤ i → i < j → j < N → K i ≡ K j → ⊥

-- v is the row of the second file with the key of row i, and 1; or 0, and there is none
pub data Mate (K : ℕ → Key) (n N i v : ℕ) : Type 0 where
  alone : v ≡ 0 → ((j : ℕ) → n ≤ j → j < N → K j ≡ K i → ⊥) → Mate K n N i v
  paired : (j : ℕ) → v ≡ suc j → n ≤ j → j < N → K j ≡ K i → Mate K n N i v

-- m tells this of each row of the first file
pub record Mates (K : ℕ → Key) (n N : ℕ) (m : ℕ → ℕ) : Type 0 where
  pub each : (i : ℕ) → i < n → Mate K n N i (m i)

-- row i stands before row j: by number, among equal numbers by key
abbrev pub Precedes : (ℕ → Key) → (ℕ → ℕ) → ℕ → ℕ → Type 0
Precedes K g i j = (g i < g j) ⊎ ((g i ≡ g j) × (compare_keys (K i) (K j) ≡ Less))

-- the first c of t are the rows whose key stood nowhere earlier, in this order
pub record Ordered (K : ℕ → Key) (g : ℕ → ℕ) (N : ℕ) (t : List ℕ) (c : ℕ) : Type 0 where
  pub within : (q : ℕ) → q < c → get_or t q 0 < N
  pub mine : (q : ℕ) → q < c → first_same K (get_or t q 0) ≡ get_or t q 0
  pub rising : (p q : ℕ) → p < q → q < c → Precedes K g (get_or t p 0) (get_or t q 0)
  pub covers : (j : ℕ) → j < N → (q : ℕ) × (q < c) × (get_or t q 0 ≡ first_same K j)

-- place holds for each row its index in t, counted from 1: that of the first row of its key
pub record Placed (K : ℕ → Key) (N : ℕ) (t : List ℕ) (c : ℕ) (place : List ℕ) : Type 0 where
  pub long : N ≤ length place
  pub each : (j : ℕ) → j < N → (q : ℕ) × (q < c) × (get_or t q 0 ≡ first_same K j) × (get_or place j 0 ≡ q + 1)
