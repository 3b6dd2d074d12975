-- How many bytes a record takes in a normal form, whatever its references.
-- Assumes nothing.
use Rattle.std.specs.Prelude.{List, [], ◌∷◌, ℕ, ◌+◌, length}
use Rattle.std.proofs.Math.Option.{Option, none, some}
use Rattle.number.specs.Limits.{entry_width}
use Rattle.number.specs.Choice.{when◌then◌else◌, ◌=?◌}
use Rattle.key.specs.Key.{key}
unfoldable pub use Rattle.reader.specs.Values.{constant_name}
use Rattle.reader.specs.Values.{Ty, simple, interface, interface_is, array, sized, Param, param, Method, method, signature, method_name, Constant, constant, Descriptor, descriptor, Entry, entry}

unfoldable pub sum : {X : Type 0} → (X → ℕ) → List X → ℕ
sum f [] = 0
sum f (x ∷ xs) = f x + sum f xs

-- ---- records of a descriptor

unfoldable pub type_size : {R : Type 0} → Ty R → ℕ
type_size (simple b) = 1
type_size (interface b r) = 3
type_size (interface_is b a) = 2
type_size (array b x y t) = 3 + type_size t
type_size (sized b x y) = 3

unfoldable pub param_size : {R : Type 0} → Param R → ℕ
param_size (param f t) = 1 + type_size t

unfoldable pub method_size : {R : Type 0} → Method R → ℕ
method_size (method f w (signature ps r)) = 6 + sum param_size ps + param_size r

-- the bytes of a value: four for the types 2 and 6, two for 1 and 5
unfoldable pub value_width : ℕ → ℕ
value_width k =
    when k =? 2 then 4 else
    when k =? 6 then 4 else
    2

unfoldable pub constant_size : Constant → ℕ
constant_size (constant w k v) = 5 + value_width k

unfoldable pub descriptor_size : {R : Type 0} → Descriptor R → ℕ
descriptor_size (descriptor up ms ks f) = 4 + sum method_size ms + 2 + sum constant_size ks + 1

-- ---- names

-- the bytes and a zero byte
unfoldable pub name_size : List ℕ → ℕ
name_size w = length w + 1

unfoldable pub method_name_size : {R : Type 0} → Method R → ℕ
method_name_size m = name_size (method_name m)

unfoldable pub constant_name_size : Constant → ℕ
constant_name_size c = name_size (constant_name c)

-- the names of a descriptor's methods and constants
unfoldable pub names_size : {R : Type 0} → Descriptor R → ℕ
names_size (descriptor up ms ks f) = sum method_name_size ms + sum constant_name_size ks

-- ---- an entry's part of the pool

-- the default namespace takes none
unfoldable pub space_size : List ℕ → ℕ
space_size [] = 0
space_size (b ∷ v) = name_size (b ∷ v)

unfoldable pub own_size : {R : Type 0} → Option (Descriptor R) → ℕ
own_size none = 0
own_size (some d) = descriptor_size d + names_size d

unfoldable pub entry_size : {R : Type 0} → Entry R → ℕ
entry_size (entry (key v w) i d) = name_size w + space_size v + own_size d

-- ---- a file

-- of one entry, in the directory and in the pool
unfoldable pub entry_length : {R : Type 0} → Entry R → ℕ
entry_length u = entry_width + entry_size u

-- of the plain form of these entries
unfoldable pub plain_length : {R : Type 0} → List (Entry R) → ℕ
plain_length us = 36 + sum entry_length us
