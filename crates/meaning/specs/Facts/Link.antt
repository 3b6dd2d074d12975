-- Linking and normalising, on entries: the lowest number whose condition holds with its place, or the union.
-- Assumes nothing.
use Rattle.std.specs.Prelude.{◌≡◌, Bool, List, ◌++◌, ℕ, ◌+◌, ◌≤◌, ◌<◌, length}
use Rattle.std.proofs.Math.Option.{Option, none, some}
use Rattle.number.specs.Limits.{file_limit, entry_limit}
use Rattle.number.specs.Choice.{when◌then◌else◌, ◌<?◌}
use Rattle.number.specs.Scan.{scan, some as one}
use Rattle.key.specs.Key.{Key}
use Rattle.reader.specs.Values.{Entry, entry_key}
use Rattle.meaning.specs.Facts.Facts.{Within}
use Rattle.meaning.specs.Facts.Union.{union}
use Rattle.meaning.specs.Facts.Conditions.{TwoIids, SharedIid, TwoDescriptors, Endless, TooMany, TooLong, Free, Agree, two_iids, shared_iid, two_descriptors, endless}
use Rattle.meaning.specs.Facts.Valid.{entry_at}

pub data Linked : Type 0 where
  -- number and place of a refusal
  stopped : ℕ → ℕ → Linked
  joined : List (Entry Key) → Linked

-- the key of entry i of A, counted from 0, is such
unfoldable pub such_at : (Key → Bool) → List (Entry Key) → ℕ → Bool
such_at such A i = such (entry_key (entry_at A i))

unfoldable pub any_such : (Key → Bool) → List (Entry Key) → Bool
any_such such A = one (such_at such A) (length A)

-- the lowest index, counted from 1, of an entry of A whose key is such
unfoldable pub first_such : (Key → Bool) → List (Entry Key) → ℕ
first_such such A = scan (such_at such A) (length A) 0 + 1

-- the first file's entries, and those of both
unfoldable pub link_both : (List (Entry Key) → ℕ) → List (Entry Key) → List (Entry Key) → Linked
link_both size A es =
    when any_such (two_iids es) A then stopped 21 (first_such (two_iids es) A) else
    when any_such (shared_iid es) A then stopped 22 (first_such (shared_iid es) A) else
    when any_such (two_descriptors es) A then stopped 23 (first_such (two_descriptors es) A) else
    when any_such (endless es) A then stopped 24 (first_such (endless es) A) else
    when entry_limit <? length (union es) then stopped 25 0 else
    when file_limit <? size (union es) then stopped 26 0 else
    joined (union es)

-- `size` is the length of the normal form of a union
unfoldable pub link_entries : (List (Entry Key) → ℕ) → List (Entry Key) → List (Entry Key) → Linked
link_entries size A B = link_both size A (A ++ B)

unfoldable pub normal_entries : (List (Entry Key) → ℕ) → List (Entry Key) → Linked
normal_entries size A = when file_limit <? size (union A) then stopped 26 0 else joined (union A)

-- ---- what the laws speak of

-- q is the lowest index, counted from 1, of an entry of A whose key is such
abbrev pub Lowest : List (Entry Key) → (Key → Type 0) → ℕ → Type 0
Lowest A Such q = (i : ℕ) × (q ≡ i + 1) × (i < length A) × Such (entry_key (entry_at A i)) × ((j : ℕ) → j < i → Such (entry_key (entry_at A j)) → ⊥)

-- n is the lowest number whose condition holds of es, and q its place in A
pub data StoppedBy (size : List (Entry Key) → ℕ) (A es : List (Entry Key)) (n q : ℕ) : Type 0 where
  by21 : n ≡ 21 → Lowest A (TwoIids es) q → StoppedBy size A es n q
  by22 : n ≡ 22 → Free es (TwoIids es) → Lowest A (SharedIid es) q → StoppedBy size A es n q
  by23 : n ≡ 23 → Free es (TwoIids es) → Free es (SharedIid es) → Lowest A (TwoDescriptors es) q → StoppedBy size A es n q
  by24 : n ≡ 24 → Free es (TwoIids es) → Free es (SharedIid es) → Free es (TwoDescriptors es) → Lowest A (Endless es) q → StoppedBy size A es n q
  by25 : n ≡ 25 → Agree es → TooMany es → q ≡ 0 → StoppedBy size A es n q
  by26 : n ≡ 26 → Agree es → (TooMany es → ⊥) → TooLong size es → q ≡ 0 → StoppedBy size A es n q

-- without the place
unfoldable pub number_only : Linked → Linked
number_only (stopped n q) = stopped n 0
number_only (joined u) = joined u

-- what was joined, if anything
unfoldable pub joined_of : Linked → Option (List (Entry Key))
joined_of (stopped n q) = none
joined_of (joined u) = some u

unfoldable pub and_then : {X Y : Type 0} → Option X → (X → Option Y) → Option Y
and_then none f = none
and_then (some x) f = f x

-- the size never falls when facts are added
abbrev pub Grows : (List (Entry Key) → ℕ) → Type 0
Grows size = (es fs : List (Entry Key)) → Within es fs → Agree es → Agree fs → size (union es) ≤ size (union fs)
