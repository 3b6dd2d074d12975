-- Each record has as many bytes as its size says.
-- Assumes nothing.
use mathlib.Core.Path.{◌≡◌, refl}
use mathlib.Core.List.{List, [], ◌∷◌}
use mathlib.Core.Option.{Option, none, some}
use Prim.Native.Nat.{ℕ, zero, suc, ◌+◌, ◌*◌, ◌/◌, ◌%◌}
use native.Mathlib.Omega.{arith}
use lib.ListN.{length, length-append}
use Rattle.key.specs.Key.{Key, key}
use Rattle.reader.specs.Values.{Ty, simple, interface, interface_is, array, sized, Param, param, Method, method, signature, method_name, Constant, constant, Descriptor, descriptor, Entry, entry, Header}
use Rattle.meaning.specs.Index.{keys_of, index_of}
use Rattle.meaning.specs.Normal.BigEndian.{bytes_of}
use Rattle.meaning.specs.Normal.Size.{sum, type_size, param_size, method_size, value_width, constant_size, descriptor_size, name_size, method_name_size, constant_name, constant_name_size, names_size, space_size, own_size, entry_size, entry_length, plain_length}
use Rattle.meaning.specs.Normal.Record.{run, type_bytes, param_bytes, method_bytes, name_after, methods_bytes, constant_bytes, constants_bytes, parent_number, constants_from, descriptor_bytes, name_bytes, method_name_bytes, constant_name_bytes, names_bytes}
use Rattle.meaning.specs.Normal.Normal.{own_from, names_from, space_from, space_bytes, own_bytes, entry_pool, pool_bytes, space_pointer, own_pointer, entry_bytes, directory_bytes, normal_header, header_bytes, note_bytes, plain_bytes, plain_form}

pub length_bytes : (k v : ℕ) → length (bytes_of k v) ≡ k
unfolding bytes_of
length_bytes zero v = refl
length_bytes (suc k) v = omega (arith, length-append (bytes_of k (v / 256)) (v % 256 ∷ []), length_bytes k (v / 256))

pub length-run : {X : Type 0} (f : X → List ℕ) (g : X → ℕ) → ((x : X) → length (f x) ≡ g x) → (xs : List X) → length (run f xs) ≡ sum g xs
unfolding run sum
length-run f g h [] = refl
length-run f g h (x ∷ xs) = omega (arith, length-append (f x) (run f xs), h x, length-run f g h xs)

-- ---- names

pub length_name : (w : List ℕ) → length (name_bytes w) ≡ name_size w
unfolding name_bytes name_size
length_name w = length-append w (0 ∷ [])

pub length_method_name : {R : Type 0} (m : Method R) → length (method_name_bytes m) ≡ method_name_size m
unfolding method_name_bytes method_name_size
length_method_name m = length_name (method_name m)

pub length_constant_name : (c : Constant) → length (constant_name_bytes c) ≡ constant_name_size c
unfolding constant_name_bytes constant_name_size
length_constant_name c = length_name (constant_name c)

pub length_names : {R : Type 0} (d : Descriptor R) → length (names_bytes d) ≡ names_size d
unfolding names_bytes names_size
length_names (descriptor up ms ks g) = rw length-append (omega (arith, length-run method_name_bytes method_name_size length_method_name ms, length-run constant_name_bytes constant_name_size length_constant_name ks))

-- ---- descriptors

module _ {R : Type 0} (f : R → ℕ) where
  pub length_type : (t : Ty R) → length (type_bytes f t) ≡ type_size t
  unfolding type_bytes type_size
  length_type (simple b) = refl
  length_type (interface b r) = omega (arith, length_bytes 2 (f r))
  length_type (interface_is b a) = refl
  length_type (array b x y t) = omega (arith, length_type t)
  length_type (sized b x y) = refl

  pub length_param : (x : Param R) → length (param_bytes f x) ≡ param_size x
  unfolding param_bytes param_size
  length_param (param g t) = omega (arith, length_type t)

  pub length_method : (q : ℕ) (m : Method R) → length (method_bytes f q m) ≡ method_size m
  unfolding method_bytes method_size
  length_method q (method g w (signature ps r)) =
      simp length-append (omega (arith, length_bytes 4 q, length-run (param_bytes f) param_size length_param ps, length_param r))

  pub length_methods : (q : ℕ) (ms : List (Method R)) → length (methods_bytes f q ms) ≡ sum method_size ms
  unfolding methods_bytes sum
  length_methods q [] = refl
  length_methods q (m ∷ ms) = rw length-append (omega (arith, length_method q m, length_methods (name_after q (method_name m)) ms))

pub length_constant : (q : ℕ) (c : Constant) → length (constant_bytes q c) ≡ constant_size c
unfolding constant_bytes constant_size
length_constant q (constant w k v) = simp length-append (omega (arith, length_bytes 4 q, length_bytes (value_width k) v))

pub length_constants : (q : ℕ) (cs : List Constant) → length (constants_bytes q cs) ≡ sum constant_size cs
unfolding constants_bytes sum
length_constants q [] = refl
length_constants q (c ∷ cs) = rw length-append (omega (arith, length_constant q c, length_constants (name_after q (constant_name c)) cs))

module _ {R : Type 0} (f : R → ℕ) where
  pub length_descriptor : (q : ℕ) (d : Descriptor R) → length (descriptor_bytes f q d) ≡ descriptor_size d
  unfolding descriptor_bytes descriptor_size
  length_descriptor q (descriptor up ms ks g) =
      simp length-append (omega (arith, length_bytes 2 (parent_number f up), length_bytes 2 (length ms), length_methods f q ms, length_bytes 2 (length ks), length_constants (constants_from q ms) ks))

  -- ---- entries

  pub length_own : (q : ℕ) (d : Option (Descriptor R)) → length (own_bytes f q d) ≡ own_size d
  unfolding own_bytes own_size
  length_own q none = refl
  length_own q (some d) = rw length-append (omega (arith, length_descriptor (names_from q d) d, length_names d))

pub length_space : (v : List ℕ) → length (space_bytes v) ≡ space_size v
unfolding space_bytes space_size
length_space [] = refl
length_space (b ∷ v) = length_name (b ∷ v)

module _ {R : Type 0} (f : R → ℕ) where
  pub length-entry_pool : (q : ℕ) (u : Entry R) → length (entry_pool f q u) ≡ entry_size u
  unfolding entry_pool entry_size
  length-entry_pool q (entry (key v w) i d) =
      simp length-append (omega (arith, length_name w, length_space v, length_own f (own_from q (key v w)) d))

  pub length_pool : (q : ℕ) (us : List (Entry R)) → length (pool_bytes f q us) ≡ sum entry_size us
  unfolding pool_bytes sum
  length_pool q [] = refl
  length_pool q (u ∷ us) = rw length-append (omega (arith, length-entry_pool q u, length_pool (q + entry_size u) us))

pub length_entry : {R : Type 0} (q : ℕ) (u : Entry R) → length (entry_bytes q u) ≡ 28
unfolding entry_bytes
length_entry q (entry (key v w) i d) =
    let a = space_pointer (space_from q (key v w)) v in
    let b = own_pointer (own_from q (key v w)) d in
    simp length-append (omega (arith, length_bytes 16 i, length_bytes 4 q, length_bytes 4 a, length_bytes 4 b))

pub length_directory : {R : Type 0} (q : ℕ) (us : List (Entry R)) → length (directory_bytes q us) ≡ 28 * length us
unfolding directory_bytes
length_directory q [] = refl
length_directory q (u ∷ us) = rw length-append (omega (arith, length_entry q u, length_directory (q + entry_size u) us))

-- ---- a file

pub length_header : (h : Header) (len : ℕ) → length (header_bytes h len) ≡ 32
unfolding header_bytes
length_header h len =
    simp length-append (omega (arith, length_bytes 2 h.count, length_bytes 4 len, length_bytes 4 h.directory, length_bytes 4 h.pool))

-- the directory and the pool are as long as all entries
pub sum_entries : {R : Type 0} (us : List (Entry R)) → sum entry_length us ≡ 28 * length us + sum entry_size us
unfolding sum entry_length
sum_entries [] = refl
sum_entries (u ∷ us) = omega (arith, sum_entries us)

pub length_file : {R : Type 0} (f : R → ℕ) (us : List (Entry R)) → length (plain_bytes f us) ≡ plain_length us
unfolding plain_bytes plain_length note_bytes
length_file f us =
    simp length-append (omega (arith, length_header (normal_header us) (36 + sum entry_length us), length_directory 1 us, length_pool f 1 us, sum_entries us))

pub length_plain : (us : List (Entry Key)) → length (plain_form us) ≡ plain_length us
unfolding plain_form
length_plain us = length_file (index_of (keys_of us)) us
