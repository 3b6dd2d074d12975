-- Document 01, "Questions": an interface itself, then its parents upward. References are of kind R, as in descriptors.
-- Assumes nothing.
use Rattle.std.specs.Prelude.{◌≡◌, ◌⊎◌, List, [], ◌∷◌, Bool, ℕ, zero, suc, ◌+◌, ◌-◌, length}
use Rattle.std.proofs.Math.Option.{Option, none, some}
use Rattle.number.specs.Choice.{when◌then◌else◌, ◌=?◌}
use Rattle.reader.specs.Values.{Descriptor, parent_of, Entry, descriptor_in}

-- a resolved entry of a chain, with its descriptor
pub data Level (R : Type 0) : Type 0 where
  level : R → Descriptor R → Level R

-- A chain is complete when it reaches a parent of 0; otherwise it met an unresolved entry.
pub data Ending (R : Type 0) : Type 0 where
  root : Ending R
  unresolved : R → Ending R

-- the resolved entries upward, and what comes after them
pub data Chain (R : Type 0) : Type 0 where
  chain : List (Level R) → Ending R → Chain R

unfoldable pub levels : {R : Type 0} → Chain R → List (Level R)
levels (chain xs end) = xs

unfoldable pub ending : {R : Type 0} → Chain R → Ending R
ending (chain xs end) = end

unfoldable pub under : {R : Type 0} → Level R → Chain R → Chain R
under x (chain xs end) = chain (x ∷ xs) end

-- the chain of a parent, where `up` gives that of an entry
unfoldable pub of_parent : {R : Type 0} → (R → Chain R) → Option R → Chain R
of_parent up none = chain [] root
of_parent up (some p) = up p

-- the chain of the entry r, whose descriptor is given
unfoldable pub of_entry : {R : Type 0} → (R → Chain R) → R → Option (Descriptor R) → Chain R
of_entry up r none = chain [] (unresolved r)
of_entry up r (some d) = under (level r d) (of_parent up (parent_of d))

-- the chain upward from r, where D gives the descriptor of each entry, within so many entries; a file's chains never use these up
unfoldable pub chain_within : {R : Type 0} → (R → Option (Descriptor R)) → ℕ → R → Chain R
chain_within D zero r = chain [] (unresolved r)
chain_within D (suc left) r = of_entry (chain_within D left) r (D r)

-- Within k steps up from r the chain reaches a parent of 0 through resolved entries: r is resolved, and has no parent, or a parent that so reaches one.
abbrev pub Reaches : {R : Type 0} → (R → Option (Descriptor R)) → ℕ → R → Type 0
Reaches {R} D zero r = (d : Descriptor R) × (D r ≡ some d) × (parent_of d ≡ none)
Reaches {R} D (suc k) r = (d : Descriptor R) × (D r ≡ some d) × ((parent_of d ≡ none) ⊎ ((p : R) × (parent_of d ≡ some p) × Reaches D k p))

-- the descriptor of the entry of index i, counted from 1
unfoldable pub descriptor_at : List (Entry ℕ) → ℕ → Option (Descriptor ℕ)
descriptor_at es i = descriptor_in es (i - 1)

-- the chain of the entry of index i
unfoldable pub chain_of : List (Entry ℕ) → ℕ → Chain ℕ
chain_of es i = chain_within (descriptor_at es) (length es) i

-- the chain of the parent of index i, 0 being none
unfoldable pub chain_above : List (Entry ℕ) → ℕ → Chain ℕ
chain_above es i = when i =? 0 then chain [] root else chain_of es i

-- ---- searching a chain

-- what a search gives: found; none; or undetermined, with the unresolved entry that the chain met
pub data Sought (R X : Type 0) : Type 0 where
  found : X → Sought R X
  nothing : Sought R X
  undetermined : R → Sought R X

-- Not found and the chain met an unresolved entry: undetermined, with that entry. Else none.
unfoldable pub missed : {R X : Type 0} → Ending R → Sought R X
missed root = nothing
missed (unresolved r) = undetermined r

unfoldable pub or_upward : {R X : Type 0} → Option X → Sought R X → Sought R X
or_upward none up = up
or_upward (some x) up = found x

-- the interface itself first, then its parents upward; `own` searches one entry, given the chain above it
unfoldable pub seek : {R X : Type 0} → (Level R → Chain R → Option X) → List (Level R) → Ending R → Sought R X
seek own [] end = missed end
seek own (x ∷ xs) end = or_upward (own x (chain xs end)) (seek own xs end)

-- lowest position first: the position of the first that passes, the first of all having position i
unfoldable pub position : {X : Type 0} → (X → Bool) → ℕ → List X → Option ℕ
position p i [] = none
position p i (x ∷ xs) = when p x then some i else position p (i + 1) xs

-- the same; where none passes, the position after the last
unfoldable pub first_position : {X : Type 0} → (X → Bool) → ℕ → List X → ℕ
first_position p i [] = i
first_position p i (x ∷ xs) = when p x then i else first_position p (i + 1) xs
