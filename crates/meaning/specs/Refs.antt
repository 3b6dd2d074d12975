-- A condition on every interface reference of a record: in types, inside array elements at any depth, and of the parent.
-- Assumes nothing.
use Rattle.std.proofs.Math.Option.{Option, none, some}
use Rattle.reader.specs.Values.{Ty, simple, interface, interface_is, array, sized, Param, param, Method, method, signature, Descriptor, descriptor, Entry, entry}
use Rattle.reader.specs.Rules.{All}

abbrev pub TypeRefs : {R : Type 0} → (R → Type 0) → Ty R → Type 0
TypeRefs P (simple b) = Unit {0}
TypeRefs P (interface b r) = P r
TypeRefs P (interface_is b a) = Unit {0}
TypeRefs P (array b x y t) = TypeRefs P t
TypeRefs P (sized b x y) = Unit {0}

abbrev pub ParamRefs : {R : Type 0} → (R → Type 0) → Param R → Type 0
ParamRefs P (param f t) = TypeRefs P t

abbrev pub MethodRefs : {R : Type 0} → (R → Type 0) → Method R → Type 0
MethodRefs P (method f w (signature ps r)) = All (ParamRefs P) ps × ParamRefs P r

abbrev pub ParentRefs : {R : Type 0} → (R → Type 0) → Option R → Type 0
ParentRefs P none = Unit {0}
ParentRefs P (some r) = P r

abbrev pub AllRefs : {R : Type 0} → (R → Type 0) → Descriptor R → Type 0
AllRefs P (descriptor up ms ks f) = ParentRefs P up × All (MethodRefs P) ms

abbrev pub OwnRefs : {R : Type 0} → (R → Type 0) → Option (Descriptor R) → Type 0
OwnRefs P none = Unit {0}
OwnRefs P (some d) = AllRefs P d

abbrev pub EntryRefs : {R : Type 0} → (R → Type 0) → Entry R → Type 0
EntryRefs P (entry k i d) = OwnRefs P d
