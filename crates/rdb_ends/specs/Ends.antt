-- The code's way through a record that was read: where its parts stand and end. That this is where the readers of document 001 find them are the laws of `EndLaws`. A text that is pointed to takes the four bytes of its Offset.
-- Assumes nothing.
use Rattle.std.specs.Prelude.{Bool, List, ℕ, zero, suc, ◌+◌, ◌-◌, get_or}
use Rattle.number.specs.Choice.{when◌then◌else◌, ◌<?◌}
use Rattle.number.specs.Number.{le}
use Rattle.rdb_text.specs.declared.Text.{Text}
use Rattle.rdb_interface.specs.declared.SetCount.{SetCount}
use Rattle.rdb_interface.specs.Interface.{where_sets}
use Rattle.rdb_ends.specs.declared.Item.{Item}
use Rattle.rdb_ends.specs.declared.Item.TheVariants.{Member, Base, Attribute, Method}

-- n parts from p on, where each ends as `end` says
unfoldable pub after : (ℕ → ℕ) → ℕ → ℕ → ℕ
after end zero p = p
after end (suc n) p = after end n (end p)

-- "UInt32 number N of .. followed by N * .."
unfoldable pub counted_end : (ℕ → ℕ) → List ℕ → ℕ → ℕ
counted_end end s p = after end (le 4 s p) (p + 4)

-- the bytes of the Idx-String at p
unfoldable pub text_of : List ℕ → ℕ → Text
text_of s p =
    when le 4 s p <? 0x80000000 then record { at = p + 4; len = le 4 s p } else
    record { at = le 4 s p - 0x80000000 + 4; len = le 4 s (le 4 s p - 0x80000000) }

unfoldable pub text_end : List ℕ → ℕ → ℕ
text_end s p = when le 4 s p <? 0x80000000 then p + 4 + le 4 s p else p + 4

unfoldable pub texts_end : List ℕ → ℕ → ℕ
texts_end s p = counted_end (text_end s) s p

unfoldable pub notes_end : Bool → List ℕ → ℕ → ℕ
notes_end a s p = when a then texts_end s p else p

-- ---- a member: name, value, annotations

unfoldable pub member_notes : List ℕ → ℕ → ℕ
member_notes s p = text_end s p + 4

unfoldable pub member_end : Bool → List ℕ → ℕ → ℕ
member_end a s p = notes_end a s (member_notes s p)

-- ---- a base: name, annotations

unfoldable pub base_end : Bool → List ℕ → ℕ → ℕ
base_end a s p = notes_end a s (text_end s p)

-- ---- an attribute: kind byte, name, type, get exceptions, set exceptions, annotations

unfoldable pub attribute_gets : List ℕ → ℕ → ℕ
attribute_gets s p = text_end s (text_end s (p + 1))

unfoldable pub attribute_sets : List ℕ → ℕ → ℕ
attribute_sets s p = texts_end s (attribute_gets s p)

unfoldable pub sets_end : SetCount → ℕ → List ℕ → ℕ → ℕ
sets_end m k s p = where_sets m k (texts_end s p) p

unfoldable pub attribute_notes : SetCount → List ℕ → ℕ → ℕ
attribute_notes m s p = sets_end m (get_or s p 0) s (attribute_sets s p)

unfoldable pub attribute_end : SetCount → Bool → List ℕ → ℕ → ℕ
attribute_end m a s p = notes_end a s (attribute_notes m s p)

-- ---- a method: name, return type, parameters (direction byte, name, type), exceptions, annotations

unfoldable pub parameter_end : List ℕ → ℕ → ℕ
parameter_end s p = text_end s (text_end s (p + 1))

unfoldable pub method_parameters : List ℕ → ℕ → ℕ
method_parameters s p = text_end s (text_end s p)

unfoldable pub method_exceptions : List ℕ → ℕ → ℕ
method_exceptions s p = counted_end (parameter_end s) s (method_parameters s p)

unfoldable pub method_notes : List ℕ → ℕ → ℕ
method_notes s p = texts_end s (method_exceptions s p)

unfoldable pub method_end : Bool → List ℕ → ℕ → ℕ
method_end a s p = notes_end a s (method_notes s p)

-- ---- one of those, and all of a counted list

unfoldable pub item_end : Item → SetCount → Bool → List ℕ → ℕ → ℕ
item_end Member m a s p = member_end a s p
item_end Base m a s p = base_end a s p
item_end Attribute m a s p = attribute_end m a s p
item_end Method m a s p = method_end a s p

unfoldable pub items_end : Item → SetCount → Bool → List ℕ → ℕ → ℕ
items_end w m a s p = counted_end (item_end w m a s) s p
