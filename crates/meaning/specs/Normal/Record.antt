-- The bytes of the records of a descriptor; `f` gives the index of a reference.
-- A name lies where the pool pointer q says, 1 being the pool's first byte.
-- Assumes nothing.
use Rattle.std.specs.Prelude.{List, [], ◌∷◌, ◌++◌, ℕ, ◌+◌, length}
use Rattle.reader.specs.Values.{Ty, simple, interface, interface_is, array, sized, Param, param, Method, method, signature, method_name, Constant, constant, Descriptor, descriptor}
unfoldable pub use Rattle.meaning.specs.Index.{parent_number}
use Rattle.meaning.specs.Normal.BigEndian.{bytes_of}
use Rattle.meaning.specs.Normal.Size.{sum, value_width, name_size, method_name_size, constant_name}

-- records in turn
unfoldable pub run : {X : Type 0} → (X → List ℕ) → List X → List ℕ
run f [] = []
run f (x ∷ xs) = f x ++ run f xs

-- ---- types, parameters, methods

unfoldable pub type_bytes : {R : Type 0} → (R → ℕ) → Ty R → List ℕ
type_bytes f (simple b) = b ∷ []
type_bytes f (interface b r) = b ∷ bytes_of 2 (f r)
type_bytes f (interface_is b a) = b ∷ a ∷ []
type_bytes f (array b x y t) = b ∷ x ∷ y ∷ type_bytes f t
type_bytes f (sized b x y) = b ∷ x ∷ y ∷ []

unfoldable pub param_bytes : {R : Type 0} → (R → ℕ) → Param R → List ℕ
param_bytes f (param g t) = g ∷ type_bytes f t

-- flags, name pointer, argument count, arguments, result
unfoldable pub method_bytes : {R : Type 0} → (R → ℕ) → ℕ → Method R → List ℕ
method_bytes f q (method g w (signature ps r)) =
    (g ∷ []) ++ bytes_of 4 q ++ (length ps ∷ []) ++ run (param_bytes f) ps ++ param_bytes f r

-- where the next name lies: nothing stands between a name and the next
unfoldable pub name_after : ℕ → List ℕ → ℕ
name_after q w = q + name_size w

-- the first method's name lies at q
unfoldable pub methods_bytes : {R : Type 0} → (R → ℕ) → ℕ → List (Method R) → List ℕ
methods_bytes f q [] = []
methods_bytes f q (m ∷ ms) = method_bytes f q m ++ methods_bytes f (name_after q (method_name m)) ms

-- ---- constants

-- name pointer, type byte, value
unfoldable pub constant_bytes : ℕ → Constant → List ℕ
constant_bytes q (constant w k v) = bytes_of 4 q ++ (k ∷ []) ++ bytes_of (value_width k) v

unfoldable pub constants_bytes : ℕ → List Constant → List ℕ
constants_bytes q [] = []
constants_bytes q (c ∷ cs) = constant_bytes q c ++ constants_bytes (name_after q (constant_name c)) cs

-- ---- descriptors

-- where the first constant's name lies, the first method's lying at q: the names of the constants stand after those of the methods
unfoldable pub constants_from : {R : Type 0} → ℕ → List (Method R) → ℕ
constants_from q ms = q + sum method_name_size ms

-- parent, method count, methods, constant count, constants, flags; the first method's name lies at q
unfoldable pub descriptor_bytes : {R : Type 0} → (R → ℕ) → ℕ → Descriptor R → List ℕ
descriptor_bytes f q (descriptor up ms ks g) =
    bytes_of 2 (parent_number f up)
    ++ bytes_of 2 (length ms) ++ methods_bytes f q ms
    ++ bytes_of 2 (length ks) ++ constants_bytes (constants_from q ms) ks
    ++ (g ∷ [])

-- ---- names

unfoldable pub name_bytes : List ℕ → List ℕ
name_bytes w = w ++ (0 ∷ [])

unfoldable pub method_name_bytes : {R : Type 0} → Method R → List ℕ
method_name_bytes m = name_bytes (method_name m)

unfoldable pub constant_name_bytes : Constant → List ℕ
constant_name_bytes c = name_bytes (constant_name c)

-- method names, then constant names
unfoldable pub names_bytes : {R : Type 0} → Descriptor R → List ℕ
names_bytes (descriptor up ms ks g) = run method_name_bytes ms ++ run constant_name_bytes ks
