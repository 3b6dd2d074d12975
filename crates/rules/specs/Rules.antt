-- The rules of document 01 and its requests on a decoded file, each as a predicate that can be read by itself; none is a test of the reader.
-- `minor` is the file's minor version, n its number of interfaces.
-- Assumes nothing.
use Rattle.std.specs.Prelude.{◌≡◌, ◌⊎◌, List, [], ◌∷◌, ℕ, zero, suc, ◌+◌, ◌*◌, ◌%◌, ◌≤◌, ◌<◌, length, get_or}
use Rattle.std.proofs.Math.Option.{Option, none, some}
use Rattle.number.specs.Limits.{file_limit, entry_limit, own_limit, name_limit, entry_width}
use Rattle.number.specs.Bits.{bit, bits_below}
use Rattle.utf8.specs.Utf8.{WellFormed}
use Rattle.key.specs.Key.{Key, key}
use Rattle.head.specs.declared.Header.{Header}
use Rattle.head.specs.Header.{newest}
use Rattle.head.specs.Shows.{NotesRule}
use Rattle.types.specs.Prefix.{pointer_bit, unique_bit, reference_bit, tag_of, uint32_tag, void_tag, iid_tag, astring_tag, StringTag, strings_minor}
use Rattle.types.specs.Types.{Ty, simple, interface, interface_is, array, sized, prefix}
use Rattle.method.specs.Flags.{getter_bit, setter_bit, not_xpcom_bit, constructor_bit, in_bit, out_bit, retval_bit, dipper_bit, lowest_flag}
use Rattle.method.specs.Parameter.{Param, param, param_flags, param_type}
use Rattle.method.specs.Method.{signature, Method, method, method_flags, method_name, no_method}
use Rattle.descriptor.specs.Constant.{Constant, constant}
use Rattle.descriptor.specs.Descriptor.{Descriptor, descriptor, function_bit}
use Rattle.typelib.specs.Entry.{Entry, entry, entry_key, entry_iid, no_entry}
use Rattle.typelib.specs.Across.{above_in}
use Rattle.typelib.specs.Typelib.{Typelib, typelib}

-- every element
abbrev pub All : {X : Type 0} → (X → Type 0) → List X → Type 0
All P [] = Unit {0}
All P (x ∷ xs) = P x × All P xs

-- ---- identifiers

-- well-formed UTF-8 of 1 to 255 bytes, none of them up to 0x20 nor 0x7f, and not a lone `-`
pub record Identifier (w : List ℕ) : Type 0 where
  pub some : 1 ≤ length w
  pub few : length w ≤ name_limit
  pub visible : All (λ b. (0x20 < b) × (b ≡ 0x7f → ⊥)) w
  pub formed : WellFormed w
  pub alone : w ≡ 0x2d ∷ [] → ⊥

-- ---- types

pub record PrefixRule (minor b : ℕ) : Type 0 where
  -- 26 to 31 are reserved, with minor 0 and 1 also 23 to 25, and with minor 0 also 15
  pub known : (tag_of b ≤ 22) ⊎ (StringTag (tag_of b) × (strings_minor ≤ minor))
  pub astring : tag_of b ≡ astring_tag → minor ≡ 0 → ⊥
  -- unique and reference need pointer
  pub unique : bit unique_bit b ≡ 1 → pointer_bit ≤ b
  pub reference : bit reference_bit b ≡ 1 → pointer_bit ≤ b
  -- tags 16 to 25 need pointer
  pub pointer : 16 ≤ tag_of b → pointer_bit ≤ b

-- an index of the directory
abbrev pub InDirectory : ℕ → ℕ → Type 0
InDirectory n i = (1 ≤ i) × (i ≤ n)

-- prefixes and indexes, inside array elements at any depth
abbrev pub TypeRule : ℕ → ℕ → Ty ℕ → Type 0
TypeRule minor n (simple b) = PrefixRule minor b
TypeRule minor n (interface b i) = PrefixRule minor b × InDirectory n i
TypeRule minor n (interface_is b a) = PrefixRule minor b
TypeRule minor n (array b x y t) = PrefixRule minor b × TypeRule minor n t
TypeRule minor n (sized b x y) = PrefixRule minor b

-- arrays one inside another
abbrev pub nesting : {R : Type 0} → Ty R → ℕ
nesting (simple b) = 0
nesting (interface b i) = 0
nesting (interface_is b a) = 0
nesting (array b x y t) = suc (nesting t)
nesting (sized b x y) = 0

-- ---- parameters and methods

-- reserved bits are zero; with minor 0 also dipper
pub record FlagRule (minor f : ℕ) : Type 0 where
  pub reserved : bits_below lowest_flag f ≡ 0
  pub dipper : minor ≡ 0 → bit dipper_bit f ≡ 0

-- a parameter's flags and type, apart from what an argument and a result may be
pub record ParamRule (minor n : ℕ) (x : Param ℕ) : Type 0 where
  pub flags : FlagRule minor (param_flags x)
  pub type : TypeRule minor n (param_type x)
  pub nested : nesting (param_type x) ≤ 8

-- an argument with retval has out
abbrev pub ArgumentRule : ℕ → ℕ → Param ℕ → Type 0
ArgumentRule minor n x = ParamRule minor n x × (bit retval_bit (param_flags x) ≡ 1 → bit out_bit (param_flags x) ≡ 1)

-- a result has neither in nor out
abbrev pub ResultRule : ℕ → ℕ → Param ℕ → Type 0
ResultRule minor n x = ParamRule minor n x × (bit in_bit (param_flags x) ≡ 0) × (bit out_bit (param_flags x) ≡ 0)

-- the prefix of argument a's type; 0 past the arguments
abbrev pub prefix_at : List (Param ℕ) → ℕ → ℕ
prefix_at ps a = prefix (param_type (get_or ps a (param 0 (simple 0))))

-- argument number a names a parameter of tag 14 with pointer
abbrev pub NamesIid : List (Param ℕ) → ℕ → Type 0
NamesIid ps a = (a < length ps) × (tag_of (prefix_at ps a) ≡ iid_tag) × (pointer_bit ≤ prefix_at ps a)

-- argument number a names a parameter of tag 6 without pointer
abbrev pub NamesSize : List (Param ℕ) → ℕ → Type 0
NamesSize ps a = (a < length ps) × (tag_of (prefix_at ps a) ≡ uint32_tag) × (prefix_at ps a < pointer_bit)

-- of a type, inside array elements at any depth
abbrev pub NumbersRule : List (Param ℕ) → Ty ℕ → Type 0
NumbersRule ps (simple b) = Unit {0}
NumbersRule ps (interface b i) = Unit {0}
NumbersRule ps (interface_is b a) = NamesIid ps a
NumbersRule ps (array b x y t) = NamesSize ps x × NamesSize ps y × NumbersRule ps t
NumbersRule ps (sized b x y) = NamesSize ps x × NamesSize ps y

pub record SignatureRule (minor n f : ℕ) (ps : List (Param ℕ)) (r : Param ℕ) : Type 0 where
  pub arguments : All (ArgumentRule minor n) ps
  pub result : ResultRule minor n r
  pub numbers : All (λ x. NumbersRule ps (param_type x)) ps
  pub result_numbers : NumbersRule ps (param_type r)
  -- unless not-XPCOM or the result has retval, the result is tag 13 or 6 without pointer
  pub result_kind : (bit not_xpcom_bit f ≡ 1) ⊎ ((bit retval_bit (param_flags r) ≡ 1) ⊎ (((tag_of (prefix (param_type r)) ≡ void_tag) ⊎ (tag_of (prefix (param_type r)) ≡ uint32_tag)) × (prefix (param_type r) < pointer_bit)))

-- Where a rule asks for an identifier, what one is, is its first parameter N.
abbrev pub MethodRuleOf : (List ℕ → Type 0) → ℕ → ℕ → Method ℕ → Type 0
MethodRuleOf N minor n (method f w (signature ps r)) = (bits_below lowest_flag f ≡ 0) × N w × SignatureRule minor n f ps r

abbrev pub MethodRule : ℕ → ℕ → Method ℕ → Type 0
MethodRule = MethodRuleOf Identifier

-- ---- constants and descriptors

-- type byte exactly 1, 2, 5 or 6
abbrev pub ConstantRuleOf : (List ℕ → Type 0) → Constant → Type 0
ConstantRuleOf N (constant w k v) = N w × ((k ≡ 1) ⊎ ((k ≡ 2) ⊎ ((k ≡ 5) ⊎ (k ≡ 6))))

abbrev pub ConstantRule : Constant → Type 0
ConstantRule = ConstantRuleOf Identifier

abbrev pub flags_of : List (Method ℕ) → ℕ → ℕ
flags_of ms i = method_flags (get_or ms i no_method)

abbrev pub name_of : List (Method ℕ) → ℕ → List ℕ
name_of ms i = method_name (get_or ms i no_method)

-- one interface has at most one constructor
abbrev pub OneConstructor : List (Method ℕ) → Type 0
OneConstructor ms = (i j : ℕ) → i < length ms → j < length ms → bit constructor_bit (flags_of ms i) ≡ 1 → bit constructor_bit (flags_of ms j) ≡ 1 → i ≡ j

-- whenever own method i is a getter and own method j a setter of the same name, j = i + 1
abbrev pub GetterPairs : List (Method ℕ) → Type 0
GetterPairs ms = (i j : ℕ) → i < length ms → j < length ms → bit getter_bit (flags_of ms i) ≡ 1 → bit setter_bit (flags_of ms j) ≡ 1 → name_of ms i ≡ name_of ms j → j ≡ i + 1

abbrev pub ParentRule : ℕ → Option ℕ → Type 0
ParentRule n none = Unit {0}
ParentRule n (some i) = InDirectory n i

pub record DescriptorRules (N : List ℕ → Type 0) (minor n : ℕ) (up : Option ℕ) (ms : List (Method ℕ)) (ks : List Constant) (f : ℕ) : Type 0 where
  pub parent : ParentRule n up
  pub few_methods : length ms ≤ own_limit
  pub methods : All (MethodRuleOf N minor n) ms
  pub few_constants : length ks ≤ own_limit
  pub constants : All (ConstantRuleOf N) ks
  -- six reserved bits, with minor 0 also function
  pub reserved : bits_below function_bit f ≡ 0
  pub function : minor ≡ 0 → bit function_bit f ≡ 0
  pub constructors : OneConstructor ms
  pub pairs : GetterPairs ms

abbrev pub DescriptorRuleOf : (List ℕ → Type 0) → ℕ → ℕ → Descriptor ℕ → Type 0
DescriptorRuleOf N minor n (descriptor up ms ks f) = DescriptorRules N minor n up ms ks f

abbrev pub DescriptorRule : ℕ → ℕ → Descriptor ℕ → Type 0
DescriptorRule = DescriptorRuleOf Identifier

-- ---- entries

-- the default namespace has no bytes
abbrev pub SpaceRuleOf : (List ℕ → Type 0) → List ℕ → Type 0
SpaceRuleOf N v = (v ≡ []) ⊎ N v

abbrev pub SpaceRule : List ℕ → Type 0
SpaceRule = SpaceRuleOf Identifier

-- a descriptor needs a nonzero IID
abbrev pub OwnRuleOf : (List ℕ → Type 0) → ℕ → ℕ → ℕ → Option (Descriptor ℕ) → Type 0
OwnRuleOf N minor n i none = Unit {0}
OwnRuleOf N minor n i (some d) = (i ≡ 0 → ⊥) × DescriptorRuleOf N minor n d

abbrev pub OwnRule : ℕ → ℕ → ℕ → Option (Descriptor ℕ) → Type 0
OwnRule = OwnRuleOf Identifier

abbrev pub EntryRuleOf : (List ℕ → Type 0) → ℕ → ℕ → Entry ℕ → Type 0
EntryRuleOf N minor n (entry (key v w) i d) = N w × SpaceRuleOf N v × OwnRuleOf N minor n i d

abbrev pub EntryRule : ℕ → ℕ → Entry ℕ → Type 0
EntryRule = EntryRuleOf Identifier

abbrev pub iid_of : List (Entry ℕ) → ℕ → ℕ
iid_of es i = entry_iid (get_or es i no_entry)

abbrev pub key_of : List (Entry ℕ) → ℕ → Key
key_of es i = entry_key (get_or es i no_entry)

-- IIDs never fall, and only zero IIDs may be equal
abbrev pub InOrder : List (Entry ℕ) → Type 0
InOrder es = (i j : ℕ) → i < j → j < length es → (iid_of es i ≡ 0) ⊎ (iid_of es i < iid_of es j)

-- keys are unique
abbrev pub UniqueKeys : List (Entry ℕ) → Type 0
UniqueKeys es = (i j : ℕ) → i < j → j < length es → key_of es i ≡ key_of es j → ⊥

-- one step up from an index, counted from 1, where `up` tells the index above each entry, counted from 0; above 0 stands 0
abbrev pub rise : (ℕ → ℕ) → ℕ → ℕ
rise up zero = 0
rise up (suc i) = up i

-- k steps up
abbrev pub climb : ℕ → (ℕ → ℕ) → ℕ → ℕ
climb zero up i = i
climb (suc k) up i = climb k up (rise up i)

-- no chain of n entries returns to an entry it has passed: where it comes to the same index twice, it has ended
abbrev pub NoReturn : (ℕ → ℕ) → ℕ → Type 0
NoReturn up n = (i a b : ℕ) → i < n → a < b → climb a up (i + 1) ≡ climb b up (i + 1) → climb a up (i + 1) ≡ 0

-- of parent chains: nothing stands above an entry without parent, and nothing above an unresolved one
abbrev pub NoCycle : List (Entry ℕ) → Type 0
NoCycle es = NoReturn (above_in es) (length es)

pub record EntriesRuleOf (N : List ℕ → Type 0) (minor n : ℕ) (es : List (Entry ℕ)) : Type 0 where
  pub each : All (EntryRuleOf N minor n) es
  pub order : InOrder es
  pub keys : UniqueKeys es
  pub chains : NoCycle es

abbrev pub EntriesRule : ℕ → ℕ → List (Entry ℕ) → Type 0
EntriesRule = EntriesRuleOf Identifier

-- ---- a file

-- the header of a file of `len` bytes
pub record PositionRule (len : ℕ) (h : Header) : Type 0 where
  -- at most 1,048,576 bytes and 1,024 interfaces
  pub short : len ≤ file_limit
  pub few : h.count ≤ entry_limit
  -- minor is 0, 1 or 2
  pub known : h.minor ≤ newest
  pub low : 33 ≤ h.pool
  pub inside : h.pool ≤ len
  -- with n = 0 the directory offset is 0
  pub absent : h.count ≡ 0 → h.directory ≡ 0
  pub placed : (h.count ≡ 0 → ⊥) → (h.directory % 4 ≡ 0) × (33 ≤ h.directory) × (h.directory + entry_width * h.count ≤ h.pool)

-- of a file of `len` bytes
abbrev pub TypelibRuleOf : (List ℕ → Type 0) → ℕ → Typelib → Type 0
TypelibRuleOf N len (typelib h notes es) = PositionRule len h × NotesRule notes × EntriesRuleOf N h.minor h.count es

abbrev pub TypelibRule : ℕ → Typelib → Type 0
TypelibRule = TypelibRuleOf Identifier
