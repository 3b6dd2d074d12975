-- Sizes are free of the references, and the bytes of a record whose references were mapped are those of the record, with the maps in turn.
-- Assumes nothing.
use mathlib.Core.Path.{◌≡◌, refl, sym, ap, ◌∙◌}
use mathlib.Core.List.{List, [], ◌∷◌, ◌++◌, map, map-append}
use mathlib.Core.Option.{Option, none, some}
use Prim.Native.Nat.{ℕ, ◌+◌, ◌*◌}
use lib.ListN.{length, length-map}
use Rattle.number.specs.Choice.{when◌then◌else◌, ◌=?◌}
use Rattle.key.specs.Key.{Key, key}
use Rattle.reader.specs.Values.{Ty, simple, interface, interface_is, array, sized, Param, param, param_type, signature, Method, method, method_name, Descriptor, descriptor, methods_of, Entry, entry, entry_descriptor}
use Rattle.reader.specs.Rules.{All}
use Rattle.meaning.specs.Meaning.{map_ty, map_param, map_signature, map_method, map_parent, map_descriptor, map_own, map_entry}
use Rattle.meaning.specs.Index.{keys_of, index_of, renumbered}
use Rattle.meaning.specs.Refs.{AllRefs, EntryRefs}
use Rattle.meaning.proofs.Maps.{itself, descriptor_Agrees, entry_Agrees, entries_agree}
use Rattle.meaning.specs.Facts.Conditions.{any_of}
use Rattle.meaning.specs.Normal.BigEndian.{bytes_of}
use Rattle.meaning.specs.Normal.Size.{sum, type_size, param_size, method_size, constant_size, descriptor_size, method_name_size, constant_name_size, names_size, name_size, space_size, own_size, entry_size, entry_length, plain_length}
use Rattle.meaning.specs.Normal.Record.{run, type_bytes, param_bytes, method_bytes, name_after, methods_bytes, constants_bytes, parent_number, constants_from, descriptor_bytes, method_name_bytes, constant_name_bytes, names_bytes, name_bytes}
use Rattle.meaning.specs.Normal.Minor.{prefixes_of, params_of, new_prefix, new_type, new_param, new_method, new_descriptor, new_own, new_entry, minor_of}
use Rattle.meaning.specs.Normal.Normal.{own_from, names_from, space_from, space_bytes, own_bytes, entry_pool, pool_bytes, space_pointer, own_pointer, entry_bytes, directory_bytes, normal_header, header_bytes, note_bytes, plain_bytes, plain_form}
use Rattle.meaning.proofs.Normal.Anys.{any_mapped}

-- ---- lists

pub sum_mapped : {X Y : Type 0} (f : X → Y) (s : Y → ℕ) (t : X → ℕ) → ((x : X) → s (f x) ≡ t x) → (xs : List X) → sum s (map f xs) ≡ sum t xs
unfolding sum
sum_mapped f s t e [] = refl
sum_mapped f s t e (x ∷ xs) = λ i. e x i + sum_mapped f s t e xs i

run_mapped : {X Y : Type 0} (f : X → Y) (s : Y → List ℕ) (t : X → List ℕ) → ((x : X) → s (f x) ≡ t x) → (xs : List X) → run s (map f xs) ≡ run t xs
unfolding run
run_mapped f s t e [] = refl
run_mapped f s t e (x ∷ xs) = λ i. e x i ++ run_mapped f s t e xs i

-- ---- sizes

module _ {R S : Type 0} (g : R → S) where
  pub type_size_lem : (t : Ty R) → type_size (map_ty g t) ≡ type_size t
  unfolding type_size map_ty
  type_size_lem (simple b) = refl
  type_size_lem (interface b r) = refl
  type_size_lem (interface_is b a) = refl
  type_size_lem (array b x y t) = λ i. 3 + type_size_lem t i
  type_size_lem (sized b x y) = refl

  pub param_size_lem : (x : Param R) → param_size (map_param g x) ≡ param_size x
  unfolding param_size map_param
  param_size_lem (param h t) = λ i. 1 + type_size_lem t i

  pub method_size_lem : (m : Method R) → method_size (map_method g m) ≡ method_size m
  unfolding method_size map_method map_signature
  method_size_lem (method h w (signature ps r)) = λ i. 6 + sum_mapped (map_param g) param_size param_size param_size_lem ps i + param_size_lem r i

  pub name_mapped : (m : Method R) → method_name (map_method g m) ≡ method_name m
  unfolding map_method method_name
  name_mapped (method h w s) = refl

  method_name_size_lem : (m : Method R) → method_name_size (map_method g m) ≡ method_name_size m
  unfolding method_name_size
  method_name_size_lem m = λ i. name_size (name_mapped m i)

  pub descriptor_size_lem : (d : Descriptor R) → descriptor_size (map_descriptor g d) ≡ descriptor_size d
  unfolding descriptor_size map_descriptor
  descriptor_size_lem (descriptor up ms ks h) = λ i. 4 + sum_mapped (map_method g) method_size method_size method_size_lem ms i + 2 + sum constant_size ks + 1

  pub names_size_lem : (d : Descriptor R) → names_size (map_descriptor g d) ≡ names_size d
  unfolding names_size map_descriptor
  names_size_lem (descriptor up ms ks h) = λ i. sum_mapped (map_method g) method_name_size method_name_size method_name_size_lem ms i + sum constant_name_size ks

  pub own_size_lem : (d : Option (Descriptor R)) → own_size (map_own g d) ≡ own_size d
  unfolding own_size map_own
  own_size_lem none = refl
  own_size_lem (some d) = λ i. descriptor_size_lem d i + names_size_lem d i

  pub entry_size_lem : (u : Entry R) → entry_size (map_entry g u) ≡ entry_size u
  unfolding entry_size map_entry
  entry_size_lem (entry (key v w) j d) = λ i. name_size w + space_size v + own_size_lem d i

  pub plain_length_lem : (us : List (Entry R)) → plain_length (map (map_entry g) us) ≡ plain_length us
  unfolding plain_length entry_length
  plain_length_lem us = λ i. 36 + sum_mapped (map_entry g) entry_length entry_length (λ u i. 28 + entry_size_lem u i) us i

-- ---- bytes

module _ {R S : Type 0} (f : S → ℕ) (g : R → S) where
  abbrev after : R → ℕ
  after r = f (g r)

  pub type_bytes_lem : (t : Ty R) → type_bytes f (map_ty g t) ≡ type_bytes after t
  unfolding type_bytes map_ty
  type_bytes_lem (simple b) = refl
  type_bytes_lem (interface b r) = refl
  type_bytes_lem (interface_is b a) = refl
  type_bytes_lem (array b x y t) = λ i. b ∷ x ∷ y ∷ type_bytes_lem t i
  type_bytes_lem (sized b x y) = refl

  pub param_bytes_lem : (x : Param R) → param_bytes f (map_param g x) ≡ param_bytes after x
  unfolding param_bytes map_param
  param_bytes_lem (param h t) = λ i. h ∷ type_bytes_lem t i

  pub method_bytes_lem : (q : ℕ) (m : Method R) → method_bytes f q (map_method g m) ≡ method_bytes after q m
  unfolding method_bytes map_method map_signature
  method_bytes_lem q (method h w (signature ps r)) = λ i.
      (h ∷ []) ++ bytes_of 4 q ++ (length-map ps (map_param g) i ∷ []) ++ run_mapped (map_param g) (param_bytes f) (param_bytes after) param_bytes_lem ps i ++ param_bytes_lem r i

  pub methods_bytes_lem : (q : ℕ) (ms : List (Method R)) → methods_bytes f q (map (map_method g) ms) ≡ methods_bytes after q ms
  unfolding methods_bytes
  methods_bytes_lem q [] = refl
  methods_bytes_lem q (m ∷ ms) =
      let e : methods_bytes f (name_after q (method_name (map_method g m))) (map (map_method g) ms) ≡ methods_bytes after (name_after q (method_name m)) ms
      = ap (λ (w : List ℕ). methods_bytes f (name_after q w) (map (map_method g) ms)) (name_mapped g m) ∙ methods_bytes_lem (name_after q (method_name m)) ms in
      λ i. method_bytes_lem q m i ++ e i

  pub parent_number_lem : (up : Option R) → parent_number f (map_parent g up) ≡ parent_number after up
  unfolding parent_number map_parent
  parent_number_lem none = refl
  parent_number_lem (some r) = refl

  pub descriptor_bytes_lem : (q : ℕ) (d : Descriptor R) → descriptor_bytes f q (map_descriptor g d) ≡ descriptor_bytes after q d
  unfolding descriptor_bytes map_descriptor constants_from
  descriptor_bytes_lem q (descriptor up ms ks h) = λ i.
      bytes_of 2 (parent_number_lem up i)
      ++ bytes_of 2 (length-map ms (map_method g) i) ++ methods_bytes_lem q ms i
      ++ bytes_of 2 (length ks) ++ constants_bytes (q + sum_mapped (map_method g) method_name_size method_name_size (method_name_size_lem g) ms i) ks
      ++ (h ∷ [])

  names_bytes_lem : (d : Descriptor R) → names_bytes (map_descriptor g d) ≡ names_bytes d
  unfolding names_bytes map_descriptor method_name_bytes
  names_bytes_lem (descriptor up ms ks h) = λ i.
      run_mapped (map_method g) method_name_bytes method_name_bytes (λ m i. name_bytes (name_mapped g m i)) ms i ++ run constant_name_bytes ks

  pub own_bytes_lem : (q : ℕ) (d : Option (Descriptor R)) → own_bytes f q (map_own g d) ≡ own_bytes after q d
  unfolding own_bytes map_own names_from
  own_bytes_lem q none = refl
  own_bytes_lem q (some d) =
      let e : descriptor_bytes f (q + descriptor_size (map_descriptor g d)) (map_descriptor g d) ≡ descriptor_bytes after (q + descriptor_size d) d
      = ap (λ (n : ℕ). descriptor_bytes f (q + n) (map_descriptor g d)) (descriptor_size_lem g d) ∙ descriptor_bytes_lem (q + descriptor_size d) d in
      λ i. e i ++ names_bytes_lem d i

  pub entry_pool_lem : (q : ℕ) (u : Entry R) → entry_pool f q (map_entry g u) ≡ entry_pool after q u
  unfolding entry_pool map_entry
  entry_pool_lem q (entry (key v w) j d) = λ i. name_bytes w ++ space_bytes v ++ own_bytes_lem (own_from q (key v w)) d i

  pub pool_bytes_lem : (q : ℕ) (us : List (Entry R)) → pool_bytes f q (map (map_entry g) us) ≡ pool_bytes after q us
  unfolding pool_bytes
  pool_bytes_lem q [] = refl
  pool_bytes_lem q (u ∷ us) =
      let e : pool_bytes f (q + entry_size (map_entry g u)) (map (map_entry g) us) ≡ pool_bytes after (q + entry_size u) us
      = ap (λ (n : ℕ). pool_bytes f (q + n) (map (map_entry g) us)) (entry_size_lem g u) ∙ pool_bytes_lem (q + entry_size u) us in
      λ i. entry_pool_lem q u i ++ e i

-- only the indexes of the references that are there matter
module _ {R : Type 0} (f g : R → ℕ) where
  pub descriptor_bytes_agree : (q : ℕ) (d : Descriptor R) → AllRefs (λ r. f r ≡ g r) d → descriptor_bytes f q d ≡ descriptor_bytes g q d
  descriptor_bytes_agree q d a = sym (descriptor_bytes_lem itself f q d) ∙ ap (descriptor_bytes itself q) (descriptor_Agrees f g d a) ∙ descriptor_bytes_lem itself g q d

  pub entry_pool_agrees : (q : ℕ) (u : Entry R) → EntryRefs (λ r. f r ≡ g r) u → entry_pool f q u ≡ entry_pool g q u
  entry_pool_agrees q u a = sym (entry_pool_lem itself f q u) ∙ ap (entry_pool itself q) (entry_Agrees f g u a) ∙ entry_pool_lem itself g q u

  pub pool_bytes_agree : (q : ℕ) (us : List (Entry R)) → All (EntryRefs (λ r. f r ≡ g r)) us → pool_bytes f q us ≡ pool_bytes g q us
  pool_bytes_agree q us a = sym (pool_bytes_lem itself f q us) ∙ ap (pool_bytes itself q) (entries_agree f g us a) ∙ pool_bytes_lem itself g q us

module _ {R S : Type 0} (g : R → S) where
  pub own_pointer_lem : (q : ℕ) (d : Option (Descriptor R)) → own_pointer q (map_own g d) ≡ own_pointer q d
  unfolding own_pointer map_own
  own_pointer_lem q none = refl
  own_pointer_lem q (some d) = refl

  pub entry_bytes_lem : (q : ℕ) (u : Entry R) → entry_bytes q (map_entry g u) ≡ entry_bytes q u
  unfolding entry_bytes map_entry
  entry_bytes_lem q (entry (key v w) j d) = λ i.
      bytes_of 16 j ++ bytes_of 4 q ++ bytes_of 4 (space_pointer (space_from q (key v w)) v) ++ bytes_of 4 (own_pointer_lem (own_from q (key v w)) d i)

  pub directory_bytes_lem : (q : ℕ) (us : List (Entry R)) → directory_bytes q (map (map_entry g) us) ≡ directory_bytes q us
  unfolding directory_bytes
  directory_bytes_lem q [] = refl
  directory_bytes_lem q (u ∷ us) =
      let e : directory_bytes (q + entry_size (map_entry g u)) (map (map_entry g) us) ≡ directory_bytes (q + entry_size u) us
      = ap (λ (n : ℕ). directory_bytes (q + n) (map (map_entry g) us)) (entry_size_lem g u) ∙ directory_bytes_lem (q + entry_size u) us in
      λ i. entry_bytes_lem q u i ++ e i

  prefixes_mapped : (t : Ty R) → prefixes_of (map_ty g t) ≡ prefixes_of t
  unfolding prefixes_of map_ty
  prefixes_mapped (simple b) = refl
  prefixes_mapped (interface b r) = refl
  prefixes_mapped (interface_is b a) = refl
  prefixes_mapped (array b x y t) = λ i. b ∷ prefixes_mapped t i
  prefixes_mapped (sized b x y) = refl

  param_new : (x : Param R) → new_param (map_param g x) ≡ new_param x
  unfolding new_param new_type map_param param_type
  param_new (param h t) = λ i. any_of new_prefix (prefixes_mapped t i)

  params_mapped : (m : Method R) → params_of (map_method g m) ≡ map (map_param g) (params_of m)
  unfolding params_of map_method map_signature
  params_mapped (method h w (signature ps r)) = sym (map-append (map_param g) ps (r ∷ []))

  method_new : (m : Method R) → new_method (map_method g m) ≡ new_method m
  unfolding new_method
  method_new m = ap (any_of new_param) (params_mapped m) ∙ any_mapped (map_param g) new_param new_param param_new (params_of m)

  descriptor_new : (d : Descriptor R) → new_descriptor (map_descriptor g d) ≡ new_descriptor d
  unfolding new_descriptor methods_of map_descriptor
  descriptor_new (descriptor up ms ks h) = any_mapped (map_method g) new_method new_method method_new ms

  pub own_new : (d : Option (Descriptor R)) → new_own (map_own g d) ≡ new_own d
  unfolding new_own map_own
  own_new none = refl
  own_new (some d) = descriptor_new d

  entry_new : (u : Entry R) → new_entry (map_entry g u) ≡ new_entry u
  unfolding new_entry entry_descriptor map_entry
  entry_new (entry k j d) = own_new d

  pub minor_mapped : (us : List (Entry R)) → minor_of (map (map_entry g) us) ≡ minor_of us
  unfolding minor_of
  minor_mapped us = λ i. when any_mapped (map_entry g) new_entry new_entry entry_new us i then 2 else 1

  pub header_mapped : (us : List (Entry R)) → normal_header (map (map_entry g) us) ≡ normal_header us
  unfolding normal_header
  header_mapped us =
      let n = length-map us (map_entry g) in
      (λ i. record { minor = minor_mapped us i; count = n i; directory = when n i =? 0 then 0 else 36; pool = 36 + 28 * n i })

pub file_mapped : {R S : Type 0} (f : S → ℕ) (g : R → S) (us : List (Entry R)) → plain_bytes f (map (map_entry g) us) ≡ plain_bytes (λ r. f (g r)) us
unfolding plain_bytes
file_mapped f g us = λ i.
    header_bytes (header_mapped g us i) (plain_length_lem g us i) ++ note_bytes ++ directory_bytes_lem g 1 us i ++ pool_bytes_lem f g 1 us i

-- the plain form is the file of the entries numbered anew
pub plain_file_lem : (us : List (Entry Key)) → plain_form us ≡ plain_bytes itself (renumbered us)
unfolding plain_form renumbered
plain_file_lem us = sym (file_mapped itself (index_of (keys_of us)) us)
