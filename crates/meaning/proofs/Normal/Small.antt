-- A file is written in bytes: every number in it is below 256.
-- Assumes nothing.
use mathlib.Core.Path.{◌≡◌, ap}
use mathlib.Core.Logic.{inl, inr}
use mathlib.Core.List.{List, [], ◌∷◌, ◌++◌}
use mathlib.Core.Option.{Option, none, some}
use Prim.Native.Nat.{ℕ, zero, suc, ◌+◌, ◌/◌, ◌%◌, ◌<◌}
use native.Mathlib.Omega.{arith}
use lib.ListN.{length, get_or}
use Rattle.key.specs.Key.{key}
use Rattle.reader.specs.Values.{Ty, simple, interface, interface_is, array, sized, Param, param, Method, method, signature, method_name, Constant, constant, Descriptor, descriptor, Entry, entry, Header}
use Rattle.reader.specs.Records.{Bytes, magic}
use Rattle.reader.specs.Rules.{All, Identifier, MethodRule, ConstantRule, DescriptorRule, SpaceRule, OwnRule, EntryRule}
use Rattle.reader.specs.Reader.Laws.{Identifier-bytes}
use Rattle.meaning.proofs.Maps.{itself}
use Rattle.meaning.specs.Normal.BigEndian.{bytes_of}
use Rattle.meaning.specs.Normal.Size.{value_width, constant_name, entry_size, plain_length}
use Rattle.meaning.specs.Normal.Record.{run, type_bytes, param_bytes, method_bytes, name_after, methods_bytes, constant_bytes, constants_bytes, parent_number, constants_from, descriptor_bytes, name_bytes, method_name_bytes, constant_name_bytes, names_bytes}
use Rattle.meaning.specs.Normal.Normal.{space_from, own_from, names_from, space_bytes, own_bytes, entry_pool, pool_bytes, space_pointer, own_pointer, entry_bytes, directory_bytes, normal_header, header_bytes, note_bytes, plain_bytes}
use Rattle.meaning.specs.Normal.Ranged.{RangedType, RangedParam, RangedMethod, Ranged, RangedOwn, RangedEntry}
use Rattle.meaning.proofs.Normal.Minors.{minor_range, header_minor}

-- ---- lists

pub none_small : Bytes []
none_small = record { small = λ i. omega arith }

cons_small : {t : List ℕ} (b : ℕ) → b < 256 → Bytes t → Bytes (b ∷ t)
cons_small {t} b l h = record { small = go }
  where
    go : (i : ℕ) → get_or (b ∷ t) i 0 < 256
    go zero = l
    go (suc i) = h.small i

pub one_small : (b : ℕ) → b < 256 → Bytes (b ∷ [])
one_small b l = cons_small b l none_small

pub join : {a b : List ℕ} → Bytes a → Bytes b → Bytes (a ++ b)
join {a} {b} h k = record { small = go a h.small }
  where
    go : (a : List ℕ) → ((i : ℕ) → get_or a i 0 < 256) → (i : ℕ) → get_or (a ++ b) i 0 < 256
    go [] h i = k.small i
    go (x ∷ a) h zero = h 0
    go (x ∷ a) h (suc i) = go a (λ j. h (suc j)) i

pub small_number : (k v : ℕ) → Bytes (bytes_of k v)
unfolding bytes_of
small_number zero v = none_small
small_number (suc k) v = join (small_number k (v / 256)) (one_small (v % 256) (omega arith))

small_run : {X : Type 0} (W : X → Type 0) (f : X → List ℕ) → ((x : X) → W x → Bytes (f x)) → (xs : List X) → All W xs → Bytes (run f xs)
unfolding run
small_run W f h [] a = none_small
small_run W f h (x ∷ xs) a = join (h x a.0) (small_run W f h xs a.1)

-- ---- names

small_word : (w : List ℕ) → Identifier w → Bytes w
small_word w i = record { small = Identifier-bytes w i }

pub small_name : (w : List ℕ) → Identifier w → Bytes (name_bytes w)
unfolding name_bytes
small_name w i = join (small_word w i) (one_small 0 (omega arith))

-- ---- descriptors

small_type : (t : Ty ℕ) → RangedType t → Bytes (type_bytes itself t)
unfolding type_bytes
small_type (simple b) r = one_small b r.0
small_type (interface b i) r = cons_small b r.0 (small_number 2 i)
small_type (interface_is b a) r = cons_small b r.0 (one_small a r.2)
small_type (array b x y t) r = cons_small b r.0 (cons_small x r.2 (cons_small y r.3 (small_type t r.4)))
small_type (sized b x y) r = cons_small b r.0 (cons_small x r.2 (one_small y r.3))

small_param : (x : Param ℕ) → RangedParam x → Bytes (param_bytes itself x)
unfolding param_bytes
small_param (param f t) r = cons_small f r.0 (small_type t r.1)

pub small_method : (q : ℕ) (m : Method ℕ) → RangedMethod m → Bytes (method_bytes itself q m)
unfolding method_bytes
small_method q (method f w (signature ps r)) g =
    join (join (join (join (one_small f g.0) (small_number 4 q)) (one_small (length ps) g.1))
    (small_run RangedParam (param_bytes itself) small_param ps g.2)) (small_param r g.3)

small_methods : (q : ℕ) (ms : List (Method ℕ)) → All RangedMethod ms → Bytes (methods_bytes itself q ms)
unfolding methods_bytes
small_methods q [] g = none_small
small_methods q (m ∷ ms) g = join (small_method q m g.0) (small_methods (name_after q (method_name m)) ms g.1)

pub small_constant : (q : ℕ) (c : Constant) → ConstantRule c → Bytes (constant_bytes q c)
unfolding constant_bytes
small_constant q (constant w k v) r =
    let l : k < 256 = elim r.1 [ inl h ↦ omega arith | inr (inl h) ↦ omega arith | inr (inr (inl h)) ↦ omega arith | inr (inr (inr h)) ↦ omega arith ] in
    join (join (small_number 4 q) (one_small k l)) (small_number (value_width k) v)

small_constants : (q : ℕ) (cs : List Constant) → All ConstantRule cs → Bytes (constants_bytes q cs)
unfolding constants_bytes
small_constants q [] r = none_small
small_constants q (c ∷ cs) r = join (small_constant q c r.0) (small_constants (name_after q (constant_name c)) cs r.1)

small_constant_name : (c : Constant) → ConstantRule c → Bytes (constant_name_bytes c)
unfolding constant_name_bytes constant_name
small_constant_name (constant w k v) r = small_name w r.0

small_space : (v : List ℕ) → SpaceRule v → Bytes (space_bytes v)
unfolding space_bytes
small_space [] r = none_small
small_space (b ∷ v) (inl e) = absurd (let z : suc (length v) ≡ 0 = ap length e in omega arith)
small_space (b ∷ v) (inr i) = small_name (b ∷ v) i

module _ (minor n : ℕ) where
  small_method_name : (m : Method ℕ) → MethodRule minor n m → Bytes (method_name_bytes m)
  unfolding method_name_bytes method_name
  small_method_name (method f w (signature ps x)) r = small_name w r.1

  small_descriptor : (q : ℕ) (d : Descriptor ℕ) → Ranged d → DescriptorRule minor n d → Bytes (descriptor_bytes itself q d)
  unfolding descriptor_bytes
  small_descriptor q (descriptor up ms ks f) g r =
      join (join (join (join (join (small_number 2 (parent_number itself up)) (small_number 2 (length ms)))
      (small_methods q ms g.0)) (small_number 2 (length ks))) (small_constants (constants_from q ms) ks r.constants)) (one_small f g.2)

  small_names : (d : Descriptor ℕ) → DescriptorRule minor n d → Bytes (names_bytes d)
  unfolding names_bytes
  small_names (descriptor up ms ks f) r =
      join (small_run (MethodRule minor n) method_name_bytes small_method_name ms r.methods) (small_run ConstantRule constant_name_bytes small_constant_name ks r.constants)

  small_own : (q i : ℕ) (d : Option (Descriptor ℕ)) → RangedOwn d → OwnRule minor n i d → Bytes (own_bytes itself q d)
  unfolding own_bytes
  small_own q i none g r = none_small
  small_own q i (some d) g r = join (small_descriptor (names_from q d) d g r.1) (small_names d r.1)

  -- ---- entries

  small_entry_pool : (q : ℕ) (u : Entry ℕ) → RangedEntry u → EntryRule minor n u → Bytes (entry_pool itself q u)
  unfolding entry_pool
  small_entry_pool q (entry (key v w) i d) g r = join (join (small_name w r.0) (small_space v r.1)) (small_own (own_from q (key v w)) i d g.1 r.2)

  small_pool : (q : ℕ) (us : List (Entry ℕ)) → All RangedEntry us → All (EntryRule minor n) us → Bytes (pool_bytes itself q us)
  unfolding pool_bytes
  small_pool q [] g r = none_small
  small_pool q (u ∷ us) g r = join (small_entry_pool q u g.0 r.0) (small_pool (q + entry_size u) us g.1 r.1)

small_entry : {R : Type 0} (q : ℕ) (u : Entry R) → Bytes (entry_bytes q u)
unfolding entry_bytes
small_entry q (entry (key v w) i d) =
    join (join (join (small_number 16 i) (small_number 4 q)) (small_number 4 (space_pointer (space_from q (key v w)) v))) (small_number 4 (own_pointer (own_from q (key v w)) d))

small_directory : {R : Type 0} (q : ℕ) (us : List (Entry R)) → Bytes (directory_bytes q us)
unfolding directory_bytes
small_directory q [] = none_small
small_directory q (u ∷ us) = join (small_entry q u) (small_directory (q + entry_size u) us)

-- ---- a file

small_magic : Bytes magic
small_magic =
    cons_small 0x58 (omega arith) (cons_small 0x50 (omega arith) (cons_small 0x43 (omega arith) (cons_small 0x4f (omega arith) (
    cons_small 0x4d (omega arith) (cons_small 0x0a (omega arith) (cons_small 0x54 (omega arith) (cons_small 0x79 (omega arith) (
    cons_small 0x70 (omega arith) (cons_small 0x65 (omega arith) (cons_small 0x4c (omega arith) (cons_small 0x69 (omega arith) (
    cons_small 0x62 (omega arith) (cons_small 0x0d (omega arith) (cons_small 0x0a (omega arith) (cons_small 0x1a (omega arith) (none_small))))))))))))))))

small_header : (h : Header) (len : ℕ) → h.minor < 256 → Bytes (header_bytes h len)
unfolding header_bytes
small_header h len l =
    join (join (join (join (join small_magic (cons_small 1 (omega arith) (one_small h.minor l)))
    (small_number 2 h.count)) (small_number 4 len)) (small_number 4 h.directory)) (small_number 4 h.pool)

small_note : Bytes note_bytes
unfolding note_bytes
small_note = cons_small 128 (omega arith) (cons_small 0 (omega arith) (cons_small 0 (omega arith) (one_small 0 (omega arith))))

-- header, annotation, directory and pool
pub small_parts : {R : Type 0} (us : List (Entry R)) (len : ℕ) {dir rest : List ℕ} → Bytes dir → Bytes rest → Bytes (header_bytes (normal_header us) len ++ note_bytes ++ dir ++ rest)
small_parts us len x y = join (join (join (small_header (normal_header us) len (omega (arith, header_minor us, (minor_range us).1))) small_note) x) y

pub file_Bytes : (us : List (Entry ℕ)) (minor : ℕ) → All RangedEntry us → All (EntryRule minor (length us)) us → Bytes (plain_bytes itself us)
unfolding plain_bytes
file_Bytes us minor g r = small_parts us (plain_length us) (small_directory 1 us) (small_pool minor (length us) 1 us g r)
