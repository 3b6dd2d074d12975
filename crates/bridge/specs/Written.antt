-- The entries of the union of two files as rows and tables tell them.
-- Assumes nothing.
use Rattle.std.specs.Prelude.{◌≡◌, Bool, false, not, List, ℕ, ◌+◌, ◌-◌, ◌<◌, length}
use Rattle.std.proofs.Math.Option.{Option, none, some}
use Rattle.number.specs.Choice.{when◌then◌else◌, ◌=?◌}
use Rattle.key.specs.Key.{Key}
use Rattle.reader.specs.Values.{Descriptor, Entry, entry}
use Rattle.reader.specs.Rules.{EntriesRule}
use Rattle.meaning.specs.Meaning.{map_own}
use Rattle.meaning.specs.Facts.Equal.{same_descriptor}
use Rattle.rows.specs.Rows.{key_of_row, iid_of_row, descriptor_of_row, reference_in}
use Rattle.iids.specs.Joined.{holder, joined}
use Rattle.tables.specs.Tables.{Mates}
use Rattle.iids.specs.Cells.{cell}
use Rattle.bridge.specs.Span.{span}

-- the entries of two accepted files, of any minor versions, and the mates of the first file's rows
pub record Matched (es fs : List (Entry ℕ)) (m : ℕ → ℕ) : Type 0 where
  pub minor : ℕ
  pub minor2 : ℕ
  pub first : EntriesRule minor (length es) es
  pub second : EntriesRule minor2 (length fs) fs
  pub mates : Mates (key_of_row es fs) (length es) (length es + length fs) m

-- own tells 0 of a row exactly when it has no descriptor
pub record Owned (es fs : List (Entry ℕ)) (own : ℕ → ℕ) : Type 0 where
  pub lacks : (i : ℕ) → i < length es + length fs → own i ≡ 0 → descriptor_of_row es fs i ≡ none
  pub has : (i : ℕ) → i < length es + length fs → descriptor_of_row es fs i ≡ none → own i ≡ 0

-- what f tells of the row that i holds, which is counted from 1; none where i is 0
unfoldable pub held_in : {X : Type 0} → (ℕ → Option X) → ℕ → Option X
held_in f i = when i =? 0 then none else f (i - 1)

-- the descriptor of row i, references counted through both files
unfoldable pub counted_of : List (Entry ℕ) → List (Entry ℕ) → ℕ → Option (Descriptor ℕ)
counted_of es fs i = map_own (reference_in (length es) i) (descriptor_of_row es fs i)

-- the key that a reference of row i means
unfoldable pub key_meant : List (Entry ℕ) → List (Entry ℕ) → ℕ → ℕ → Key
key_meant es fs i r = key_of_row es fs (reference_in (length es) i r - 1)

-- the descriptor of row i, references being keys
unfoldable pub meant_of : List (Entry ℕ) → List (Entry ℕ) → ℕ → Option (Descriptor Key)
meant_of es fs i = map_own (key_meant es fs i) (descriptor_of_row es fs i)

-- there are two, and they differ
unfoldable pub differing : {X : Type 0} → (X → X → Bool) → Option X → Option X → Bool
differing same none p = false
differing same (some x) none = false
differing same (some x) (some y) = not (same x y)

-- 23, of row i of the first file: it and its mate have two different descriptors
unfoldable pub two_meanings : List (Entry ℕ) → List (Entry ℕ) → (ℕ → ℕ) → ℕ → Bool
two_meanings es fs m i = when m i =? 0 then false else differing same_descriptor (meant_of es fs i) (meant_of es fs (m i - 1))

-- what row r and its mate say together
unfoldable pub meant_entry : List (Entry ℕ) → List (Entry ℕ) → (ℕ → ℕ) → (ℕ → ℕ) → ℕ → Entry Key
meant_entry es fs own m r = entry (key_of_row es fs r) (joined (iid_of_row es fs) m (length es) r) (held_in (meant_of es fs) (holder own m (length es) r))

-- the same, references counted through both files
unfoldable pub row_entry : List (Entry ℕ) → List (Entry ℕ) → (ℕ → ℕ) → (ℕ → ℕ) → ℕ → Entry ℕ
row_entry es fs own m r = entry (key_of_row es fs r) (joined (iid_of_row es fs) m (length es) r) (held_in (counted_of es fs) (holder own m (length es) r))

-- of the first c rows of t
unfoldable pub row_entries : List (Entry ℕ) → List (Entry ℕ) → (ℕ → ℕ) → (ℕ → ℕ) → List ℕ → ℕ → List (Entry ℕ)
row_entries es fs own m t c = span (λ q. row_entry es fs own m (cell t q)) c
