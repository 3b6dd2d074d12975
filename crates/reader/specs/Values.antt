-- The values that a file is decoded to, for the crates above.
-- Assumes nothing.
pub use Rattle.types.specs.Types.{Ty, simple, interface, interface_is, array, sized, Ty-discrete}
unfoldable pub use Rattle.types.specs.Types.{prefix}
pub use Rattle.method.specs.Flags.{getter_bit, setter_bit}
pub use Rattle.method.specs.Parameter.{Param, param, Param-discrete}
unfoldable pub use Rattle.method.specs.Parameter.{param_flags, param_type}
pub use Rattle.method.specs.Method.{Signature, signature, Signature-discrete, Method, method, Method-discrete}
unfoldable pub use Rattle.method.specs.Method.{method_flags, method_name, method_signature, no_method}
pub use Rattle.descriptor.specs.Constant.{Constant, constant, Constant-discrete}
pub use Rattle.descriptor.specs.Descriptor.{Descriptor, descriptor, Descriptor-discrete}
unfoldable pub use Rattle.descriptor.specs.Descriptor.{parent_of, methods_of, constants_of, interface_flags}
pub use Rattle.typelib.specs.Entry.{Entry, entry, Entry-discrete}
unfoldable pub use Rattle.typelib.specs.Entry.{entry_key, entry_iid, entry_descriptor, no_entry, keys_in, descriptor_in}
unfoldable pub use Rattle.typelib.specs.Across.{parent_index, above, above_in}
pub use Rattle.head.specs.declared.Header.{Header}
pub use Rattle.head.specs.Annotation.{Annotation, empty, texts}
pub use Rattle.typelib.specs.Typelib.{Typelib, typelib}
unfoldable pub use Rattle.typelib.specs.Typelib.{header_of, notes_of, entries_in}
use Rattle.std.specs.Prelude.{ℕ, List, length}
use Rattle.types.specs.Prefix.{tag_of}

-- the tag of a type, of an array that of its element: no array's
unfoldable pub inner_tag : {R : Type 0} → Ty R → ℕ
inner_tag (simple b) = tag_of b
inner_tag (interface b r) = tag_of b
inner_tag (interface_is b a) = tag_of b
inner_tag (array b x y t) = inner_tag t
inner_tag (sized b x y) = tag_of b

unfoldable pub argument_count : {R : Type 0} → Method R → ℕ
argument_count (method f w (signature ps r)) = length ps

unfoldable pub constant_name : Constant → List ℕ
constant_name (constant w k v) = w

unfoldable pub constant_type : Constant → ℕ
constant_type (constant w k v) = k

unfoldable pub constant_value : Constant → ℕ
constant_value (constant w k v) = v
