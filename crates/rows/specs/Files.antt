-- What the functions that read files are given, and what they answer: for every directory that the files show.
-- Assumes nothing.
use Rattle.std.specs.Prelude.{◌≡◌, List, ℕ, ◌≤◌, drop}
use Rattle.std.proofs.lemmas.List.Edits.{sets}
use Rattle.reader.specs.Values.{Entry}
use Rattle.reader.specs.declared.Layout.{Layout}
use Rattle.reader.specs.Layout.{LaidOut}

-- a file of this layout and its pool show these entries
pub record Holds (s pool : List ℕ) (l : Layout) (es : List (Entry ℕ)) : Type 0 where
  pub laid : LaidOut s l es
  pub behind : pool ≡ drop l.pool s

-- the entries of two files
pub record Pair : Type 0 where
  pub first : List (Entry ℕ)
  pub second : List (Entry ℕ)

pub record HoldBoth (s pool : List ℕ) (l : Layout) (s2 pool2 : List ℕ) (l2 : Layout) (x : Pair) : Type 0 where
  pub first : Holds s pool l x.first
  pub second : Holds s2 pool2 l2 x.second

-- ---- P says which values are shown

-- one is
pub record Given {X : Type 0} (P : X → Type 0) : Type 0 where
  pub value : X
  pub shown : P value

-- and n bytes have room for it
pub record Fits {X : Type 0} (P : X → Type 0) (size : X → ℕ) (n : ℕ) : Type 0 where
  pub value : X
  pub shown : P value
  pub room : size value ≤ n

-- r is what f tells of each
pub record Gives {X Y : Type 0} (P : X → Type 0) (f : X → Y) (r : Y) : Type 0 where
  pub each : (x : X) → P x → r ≡ f x

-- and the bytes of each stand at the front; all after them is as before
pub record Puts {X Y : Type 0} (P : X → Type 0) (f : X → Y) (bytes : X → List ℕ) (before : List ℕ) (r : Y) (after : List ℕ) : Type 0 where
  pub answer : Gives P f r
  pub stored : (x : X) → P x → after ≡ sets before 0 (bytes x)
