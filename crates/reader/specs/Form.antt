-- What stands after the prefix of a type: the way in which the crates above tell types apart, but for the tags that a minor brought, which have their names.
-- Assumes nothing.
use Rattle.std.specs.Prelude.{ℕ}
use Rattle.types.specs.Prefix.{tag_of}
use Rattle.types.specs.Types.{Ty, simple, interface, interface_is, array, sized, class_of}
use Rattle.types.specs.declared.Class.{Class}
use Rattle.types.specs.declared.Class.TheVariants as class
use Rattle.head.specs.Header.{newest}
use Rattle.reader.specs.declared.record.Form.{Form}
use Rattle.reader.specs.declared.record.Form.TheVariants.{Simple, Interface, InterfaceIs, Array, Sized}

-- of a value
unfoldable pub type_form : {R : Type 0} → Ty R → Form
type_form (simple b) = Simple
type_form (interface b r) = Interface
type_form (interface_is b a) = InterfaceIs
type_form (array b x y t) = Array
type_form (sized b x y) = Sized

-- by the class of the tag; a reserved tag is that of no type
unfoldable pub class_form : Class → Form
class_form class.Reserved = Simple
class_form class.Plain = Simple
class_form class.Text = Simple
class_form class.Interface = Interface
class_form class.InterfaceIs = InterfaceIs
class_form class.Array = Array
class_form class.Sized = Sized

-- of the prefix b
unfoldable pub form_of : ℕ → Form
form_of b = class_form (class_of newest (tag_of b))
