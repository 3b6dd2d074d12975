-- Answers, and the chains that they are searched on, with a key in the place of each index.
-- Assumes nothing.
use Rattle.std.specs.Prelude.{List, map, ℕ}
use Rattle.std.proofs.Math.Option.{Option, none, some}
use Rattle.key.specs.Key.{Key}
use Rattle.reader.specs.Values.{Entry, Constant}
use Rattle.lookup.specs.declared.Kind.{Kind}
use Rattle.lookup.specs.Chain.{Level, level, Ending, root, unresolved, Chain, chain, chain_of, Sought, found, nothing, undetermined}
use Rattle.lookup.specs.Method.{SlotOf, known, unknown, FoundMethod, found_method, method_named, method_in_slot}
use Rattle.lookup.specs.Constant.{constant_named}
use Rattle.lookup.specs.Question.{has_iid, has_key, interface_where}
use Rattle.meaning.specs.Meaning.{key_of_index, map_descriptor}

-- ---- where f gives what stands for a reference

unfoldable pub slot_by : {R S : Type 0} → (R → S) → SlotOf R → SlotOf S
slot_by f (known s) = known s
slot_by f (unknown r) = unknown (f r)

unfoldable pub found_by : {R S : Type 0} → (R → S) → FoundMethod R → FoundMethod S
found_by f (found_method o p x n y) = found_method (f o) p (slot_by f x) n (slot_by f y)

unfoldable pub sought_by : {R S X Y : Type 0} → (R → S) → (X → Y) → Sought R X → Sought S Y
sought_by f g (found x) = found (g x)
sought_by f g nothing = nothing
sought_by f g (undetermined r) = undetermined (f r)

unfoldable pub level_by : {R S : Type 0} → (R → S) → Level R → Level S
level_by f (level r d) = level (f r) (map_descriptor f d)

unfoldable pub ending_by : {R S : Type 0} → (R → S) → Ending R → Ending S
ending_by f root = root
ending_by f (unresolved r) = unresolved (f r)

unfoldable pub chain_by : {R S : Type 0} → (R → S) → Chain R → Chain S
chain_by f (chain xs end) = chain (map (level_by f) xs) (ending_by f end)

-- ---- what a file's entries answer

unfoldable pub index_keyed : List (Entry ℕ) → Option ℕ → Option Key
index_keyed es none = none
index_keyed es (some i) = some (key_of_index es i)

-- interface by IID
unfoldable pub iid_keyed : List (Entry ℕ) → ℕ → Option Key
iid_keyed es v = index_keyed es (interface_where (has_iid v) es)

-- interface by key
unfoldable pub key_keyed : List (Entry ℕ) → List ℕ → List ℕ → Option Key
key_keyed es v w = index_keyed es (interface_where (has_key v w) es)

-- method of the entry i by name and kind
unfoldable pub method_keyed : List (Entry ℕ) → ℕ → List ℕ → Kind → Sought Key (FoundMethod Key)
method_keyed es i w k = sought_by (key_of_index es) (found_by (key_of_index es)) (method_named w k (chain_of es i))

-- method of the entry i by slot
unfoldable pub slot_keyed : List (Entry ℕ) → ℕ → ℕ → Sought Key (FoundMethod Key)
slot_keyed es i s = sought_by (key_of_index es) (found_by (key_of_index es)) (method_in_slot s (chain_of es i))

-- constant of the entry i by name
unfoldable pub constant_keyed : List (Entry ℕ) → ℕ → List ℕ → Sought Key Constant
constant_keyed es i w = sought_by (key_of_index es) (λ c. c) (constant_named w (chain_of es i))
