-- Document 01, "Meaning": the entries, with key, IID and descriptor, and with every interface reference read as a key.
-- Offsets, sharing, annotations and minor are no part of it.
-- Assumes nothing.
use Rattle.std.specs.Prelude.{List, map, ℕ, ◌-◌}
use Rattle.std.proofs.Math.Option.{Option, none, some}
use Rattle.key.specs.Key.{Key}
use Rattle.reader.specs.Values.{Ty, simple, interface, interface_is, array, sized, Param, param, Signature, signature, Method, method, Descriptor, descriptor, Entry, entry, keys_in}

-- each reference r of a record becomes f r; nothing else changes
unfoldable pub map_ty : {R S : Type 0} → (R → S) → Ty R → Ty S
map_ty f (simple b) = simple b
map_ty f (interface b r) = interface b (f r)
map_ty f (interface_is b a) = interface_is b a
map_ty f (array b x y t) = array b x y (map_ty f t)
map_ty f (sized b x y) = sized b x y

unfoldable pub map_param : {R S : Type 0} → (R → S) → Param R → Param S
map_param f (param g t) = param g (map_ty f t)

unfoldable pub map_signature : {R S : Type 0} → (R → S) → Signature R → Signature S
map_signature f (signature ps r) = signature (map (map_param f) ps) (map_param f r)

unfoldable pub map_method : {R S : Type 0} → (R → S) → Method R → Method S
map_method f (method g w s) = method g w (map_signature f s)

unfoldable pub map_parent : {R S : Type 0} → (R → S) → Option R → Option S
map_parent f none = none
map_parent f (some r) = some (f r)

unfoldable pub map_descriptor : {R S : Type 0} → (R → S) → Descriptor R → Descriptor S
map_descriptor f (descriptor up ms ks g) = descriptor (map_parent f up) (map (map_method f) ms) ks g

unfoldable pub map_own : {R S : Type 0} → (R → S) → Option (Descriptor R) → Option (Descriptor S)
map_own f none = none
map_own f (some d) = some (map_descriptor f d)

unfoldable pub map_entry : {R S : Type 0} → (R → S) → Entry R → Entry S
map_entry f (entry k i d) = entry k i (map_own f d)

-- the key of the entry of index i, counted from 1
unfoldable pub key_of_index : List (Entry ℕ) → ℕ → Key
key_of_index es i = keys_in es (i - 1)

-- The meaning of a directory. It is a set: who compares two meanings reads this list without its order.
unfoldable pub meaning : List (Entry ℕ) → List (Entry Key)
meaning es = map (map_entry (key_of_index es)) es
