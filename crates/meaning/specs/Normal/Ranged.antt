-- The numbers of a record fit their bytes, and the tag of each type is that of its constructor.
-- No rule says so, since every value that bytes show is of this kind.
-- Assumes nothing.
use Rattle.std.proofs.Math.Option.{Option, none, some}
use Rattle.std.specs.Prelude.{◌^◌, ◌<◌, length}
use Rattle.reader.specs.Values.{Ty, simple, interface, interface_is, array, sized, Param, param, Method, method, signature, Constant, constant, Descriptor, descriptor, Entry, entry}
use Rattle.reader.specs.Records.{tag_of, SimpleTag, InterfaceTag, InterfaceIsTag, ArrayTag, SizedTag}
use Rattle.reader.specs.Rules.{All}
use Rattle.meaning.specs.Normal.Size.{value_width}

abbrev pub RangedType : {R : Type 0} → Ty R → Type 0
RangedType (simple b) = (b < 256) × SimpleTag (tag_of b)
RangedType (interface b r) = (b < 256) × InterfaceTag (tag_of b)
RangedType (interface_is b a) = (b < 256) × InterfaceIsTag (tag_of b) × (a < 256)
RangedType (array b x y t) = (b < 256) × ArrayTag (tag_of b) × (x < 256) × (y < 256) × RangedType t
RangedType (sized b x y) = (b < 256) × SizedTag (tag_of b) × (x < 256) × (y < 256)

abbrev pub RangedParam : {R : Type 0} → Param R → Type 0
RangedParam (param f t) = (f < 256) × RangedType t

abbrev pub RangedMethod : {R : Type 0} → Method R → Type 0
RangedMethod (method f w (signature ps r)) = (f < 256) × (length ps < 256) × All RangedParam ps × RangedParam r

abbrev pub RangedConstant : Constant → Type 0
RangedConstant (constant w k v) = v < 256 ^ value_width k

abbrev pub Ranged : {R : Type 0} → Descriptor R → Type 0
Ranged (descriptor up ms ks f) = All RangedMethod ms × All RangedConstant ks × (f < 256)

abbrev pub RangedOwn : {R : Type 0} → Option (Descriptor R) → Type 0
RangedOwn none = Unit {0}
RangedOwn (some d) = Ranged d

-- an IID has 16 bytes
abbrev pub RangedEntry : {R : Type 0} → Entry R → Type 0
RangedEntry (entry k i d) = (i < 256 ^ 16) × RangedOwn d
