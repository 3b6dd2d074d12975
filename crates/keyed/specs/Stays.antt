-- Document 02, "The whole pile": which answers stay given where facts are added, in terms of keys.
-- Assumes nothing.
use Rattle.std.specs.Prelude.{◌≡◌, List, ℕ, length}
use Rattle.std.proofs.Math.Option.{Option, none, some}
use Rattle.key.specs.Key.{Key}
use Rattle.reader.specs.Values.{Entry, Constant}
use Rattle.reader.specs.Rules.{InDirectory}
use Rattle.lookup.specs.declared.Kind.{Kind}
use Rattle.lookup.specs.Chain.{Sought, found, nothing, undetermined}
use Rattle.lookup.specs.Method.{SlotOf, known, unknown, FoundMethod, found_method}
use Rattle.meaning.specs.Meaning.{key_of_index}
use Rattle.keyed.specs.Keyed.{iid_keyed, key_keyed, method_keyed, slot_keyed, constant_keyed}

-- What was answered, and what is answered then.

-- "No such interface" may become anything.
abbrev pub InterfaceStays : Option Key → Option Key → Type 0
InterfaceStays none b = Unit {0}
InterfaceStays (some k) b = b ≡ some k

-- A method with a known slot stays with all of its record, any other with its owner, position and distance. "None" is only answered on a complete chain. Undetermined may become anything.
abbrev pub MethodStays : Sought Key (FoundMethod Key) → Sought Key (FoundMethod Key) → Type 0
MethodStays (found (found_method o p (known s) n y)) b = b ≡ found (found_method o p (known s) n y)
MethodStays (found (found_method o p (unknown r) n y)) b = (x : SlotOf Key) × (z : SlotOf Key) × (b ≡ found (found_method o p x n z))
MethodStays nothing b = b ≡ nothing
MethodStays (undetermined r) b = Unit {0}

-- a constant with its name, type and value
abbrev pub ConstantStays : Sought Key Constant → Sought Key Constant → Type 0
ConstantStays (found c) b = b ≡ found c
ConstantStays nothing b = b ≡ nothing
ConstantStays (undetermined r) b = Unit {0}

-- what the entries es answer stays given by the entries us
pub record Stays (es us : List (Entry ℕ)) : Type 0 where
  pub iid : (v : ℕ) → (v ≡ 0 → ⊥) → InterfaceStays (iid_keyed es v) (iid_keyed us v)
  pub key : (v w : List ℕ) → InterfaceStays (key_keyed es v w) (key_keyed us v w)
  -- each key is there; what follows is of the entries i and j of one key
  pub there : (i : ℕ) → InDirectory (length es) i → (j : ℕ) × InDirectory (length us) j × (key_of_index us j ≡ key_of_index es i)
  pub method : (i j : ℕ) → InDirectory (length es) i → InDirectory (length us) j → key_of_index us j ≡ key_of_index es i → (w : List ℕ) (k : Kind) → MethodStays (method_keyed es i w k) (method_keyed us j w k)
  pub slot : (i j : ℕ) → InDirectory (length es) i → InDirectory (length us) j → key_of_index us j ≡ key_of_index es i → (s : ℕ) → MethodStays (slot_keyed es i s) (slot_keyed us j s)
  pub constant : (i j : ℕ) → InDirectory (length es) i → InDirectory (length us) j → key_of_index us j ≡ key_of_index es i → (w : List ℕ) → ConstantStays (constant_keyed es i w) (constant_keyed us j w)
