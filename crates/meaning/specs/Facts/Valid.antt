-- What the entries of an accepted file have among one another, references being keys; not the rules inside an entry.
-- Assumes nothing.
use Rattle.std.specs.Prelude.{◌≡◌, ◌⊎◌, List, [], ℕ, ◌≤◌, ◌<◌, length, get_or}
use Rattle.std.proofs.Math.Option.{none, some}
use Rattle.number.specs.Limits.{entry_limit}
use Rattle.key.specs.Key.{Key, key}
use Rattle.reader.specs.Values.{Descriptor, Entry, entry, entry_key, entry_iid}
use Rattle.meaning.specs.Facts.Facts.{In, keys_of}
use Rattle.meaning.specs.Facts.Conditions.{parent_in, Ends}
use Rattle.meaning.specs.Refs.{AllRefs}

-- what stands past the end of a list of entries
unfoldable pub blank : Entry Key
blank = entry (key [] []) 0 none

-- entry i, counted from 0
unfoldable pub entry_at : List (Entry Key) → ℕ → Entry Key
entry_at es i = get_or es i blank

pub record Valid (A : List (Entry Key)) : Type 0 where
  -- keys are unique
  pub keys : (i j : ℕ) → i < j → j < length A → entry_key (entry_at A i) ≡ entry_key (entry_at A j) → ⊥
  -- only zero IIDs may be equal
  pub iids : (i j : ℕ) → i < j → j < length A → entry_iid (entry_at A i) ≡ entry_iid (entry_at A j) → entry_iid (entry_at A i) ≡ 0
  -- a descriptor needs a nonzero IID
  pub resolved : (k : Key) (i : ℕ) (d : Descriptor Key) → In (entry k i (some d)) A → i ≡ 0 → ⊥
  -- a reference is the key of an entry
  pub references : (k : Key) (i : ℕ) (d : Descriptor Key) → In (entry k i (some d)) A → AllRefs (λ l. In l (keys_of A)) d
  -- no parent chain returns to an entry it has passed
  pub chains : (k : Key) → In k (keys_of A) → Ends (parent_in A) k
  pub few : length A ≤ entry_limit

-- IIDs never fall, and only zero IIDs may be equal
abbrev pub IidOrder : List (Entry Key) → Type 0
IidOrder es = (i j : ℕ) → i < j → j < length es → (entry_iid (entry_at es i) ≡ 0) ⊎ (entry_iid (entry_at es i) < entry_iid (entry_at es j))
