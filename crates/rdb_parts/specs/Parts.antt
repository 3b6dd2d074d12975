-- Request #105: "each counted part of an opened one is answered by position from 0, texts as their bytes' offset and length, or none".
-- Assumes nothing.
use Rattle.std.specs.Prelude.{List, [], ◌∷◌, ℕ, zero, suc, ◌-◌, get_or}
use Rattle.std.proofs.Math.Option.{Option, none, some}
use Rattle.number.specs.Choice.{when◌then◌else◌, ◌<?◌}
use Rattle.number.specs.Number.{le}
use Rattle.reading.specs.Got.{Got, got, bad}
use Rattle.key.specs.Word.{word_end}
use Rattle.rdb_text.specs.declared.Text.{Text}
use Rattle.rdb_map.specs.Map.{entry_place}
use Rattle.rdb_record.specs.Enum.{Member, member}
use Rattle.rdb_record.specs.Constant.{Constant, constant, read_constant}
use Rattle.rdb_interface.specs.declared.SetCount.{SetCount}
use Rattle.rdb_interface.specs.Interface.{Base, base, Attribute, attribute, Parameter, parameter, Method, method}
use Rattle.rdb_file.specs.Visit.{Sound, map_place}
use Rattle.rdb_path.specs.Path.{cut, payload_at, entity_at}
use Rattle.rdb_places.specs.Lists.{interface_bases, interface_optionals, interface_attributes, interface_methods, listed, members_of, interface_list, notes_of, constant_count, entry_count}
use Rattle.rdb_parts.specs.declared.Part.{Part}
use Rattle.rdb_parts.specs.declared.Part.TheVariants as part
use Rattle.rdb_parts.specs.declared.Inner.{Inner}
use Rattle.rdb_parts.specs.declared.Inner.TheVariants as inner
use Rattle.rdb_parts.specs.declared.PartAnswer.{PartAnswer}
use Rattle.rdb_parts.specs.declared.PartAnswer.TheVariants as answer

-- ---- by position

-- what f says of the element at position i, or none
unfoldable pub nth : {X : Type 0} → (X → PartAnswer) → ℕ → List X → PartAnswer
nth f i [] = answer.None
nth f zero (x ∷ xs) = f x
nth f (suc i) (x ∷ xs) = nth f i xs

unfoldable pub text_at : ℕ → List Text → PartAnswer
text_at i ts = nth answer.Text i ts

-- ---- what is said of a part, and of its own parts

unfoldable pub member_said : Member → PartAnswer
member_said (member t v ns) = answer.Member (record { name = t; value = v })

unfoldable pub member_note : ℕ → Member → PartAnswer
member_note j (member t v ns) = text_at j ns

unfoldable pub base_said : Base → PartAnswer
base_said (base t ns) = answer.Text t

unfoldable pub base_note : ℕ → Base → PartAnswer
base_note j (base t ns) = text_at j ns

unfoldable pub attribute_said : Attribute → PartAnswer
attribute_said (attribute k t ty gets sets ns) = answer.Typed (record { kind = k; name = t; of = ty })

unfoldable pub attribute_get : ℕ → Attribute → PartAnswer
attribute_get j (attribute k t ty gets sets ns) = text_at j gets

unfoldable pub attribute_set : ℕ → Attribute → PartAnswer
attribute_set j (attribute k t ty gets sets ns) = text_at j sets

unfoldable pub attribute_note : ℕ → Attribute → PartAnswer
attribute_note j (attribute k t ty gets sets ns) = text_at j ns

unfoldable pub parameter_said : Parameter → PartAnswer
parameter_said (parameter d t ty) = answer.Typed (record { kind = d; name = t; of = ty })

unfoldable pub method_said : Method → PartAnswer
method_said (method t ty ps xs ns) = answer.Method (record { name = t; result = ty })

unfoldable pub method_parameter : ℕ → Method → PartAnswer
method_parameter j (method t ty ps xs ns) = nth parameter_said j ps

unfoldable pub method_exception : ℕ → Method → PartAnswer
method_exception j (method t ty ps xs ns) = text_at j xs

unfoldable pub method_note : ℕ → Method → PartAnswer
method_note j (method t ty ps xs ns) = text_at j ns

unfoldable pub constant_notes : Constant → List Text
constant_notes (constant k v ns) = ns

-- entry i of the map at `at`
unfoldable pub entry_said : List ℕ → ℕ → ℕ → PartAnswer
entry_said s at i = answer.Entry (record {
  key = record { at = le 4 s (entry_place at i); len = word_end s (le 4 s (entry_place at i)) - le 4 s (entry_place at i) };
  kind = get_or s (payload_at s at i) 0;
  offset = payload_at s at i;
})

-- entry i of the entity at o
unfoldable pub entry_part : List ℕ → ℕ → ℕ → PartAnswer
entry_part s i o = when i <? entry_count s o then entry_said s (map_place o) i else answer.None

-- annotation j of the constant at q
unfoldable pub constant_note : List ℕ → ℕ → ℕ → PartAnswer
constant_note s j q = text_at j (listed constant_notes (read_constant s q))

-- annotation j of constant i of the entity at o
unfoldable pub entry_note : List ℕ → ℕ → ℕ → ℕ → PartAnswer
entry_note s i j o = when i <? constant_count s o then constant_note s j (payload_at s (map_place o) i) else answer.None

-- ---- the questions

unfoldable pub part_at : SetCount → List ℕ → Part → ℕ → ℕ → PartAnswer
part_at m s part.Entry i o = entry_part s i o
part_at m s part.Member i o = nth member_said i (members_of s o)
part_at m s part.Base i o = nth base_said i (interface_list interface_bases m s o)
part_at m s part.Optional i o = nth base_said i (interface_list interface_optionals m s o)
part_at m s part.Attribute i o = nth attribute_said i (interface_list interface_attributes m s o)
part_at m s part.Method i o = nth method_said i (interface_list interface_methods m s o)
part_at m s part.Note i o = text_at i (notes_of m s o)

unfoldable pub inner_at : SetCount → List ℕ → Inner → ℕ → ℕ → ℕ → PartAnswer
inner_at m s inner.EntryNote i j o = entry_note s i j o
inner_at m s inner.MemberNote i j o = nth (member_note j) i (members_of s o)
inner_at m s inner.BaseNote i j o = nth (base_note j) i (interface_list interface_bases m s o)
inner_at m s inner.OptionalNote i j o = nth (base_note j) i (interface_list interface_optionals m s o)
inner_at m s inner.GetException i j o = nth (attribute_get j) i (interface_list interface_attributes m s o)
inner_at m s inner.SetException i j o = nth (attribute_set j) i (interface_list interface_attributes m s o)
inner_at m s inner.AttributeNote i j o = nth (attribute_note j) i (interface_list interface_attributes m s o)
inner_at m s inner.Parameter i j o = nth (method_parameter j) i (interface_list interface_methods m s o)
inner_at m s inner.Exception i j o = nth (method_exception j) i (interface_list interface_methods m s o)
inner_at m s inner.MethodNote i j o = nth (method_note j) i (interface_list interface_methods m s o)

unfoldable pub part_found : (ℕ → PartAnswer) → Option ℕ → PartAnswer
part_found f none = answer.None
part_found f (some o) = f o

-- what f says of the entity that the path leads to, in the file s, which the check read so
unfoldable pub said_of : (ℕ → PartAnswer) → Got Sound → List ℕ → List ℕ → PartAnswer
said_of f (bad n q) s path = answer.Refused (record { no = n; place = q })
said_of f (got x v) s path = part_found f (entity_at s (cut path))

unfoldable pub ask_part : SetCount → Got Sound → List ℕ → List ℕ → Part → ℕ → PartAnswer
ask_part m g s path w i = said_of (part_at m s w i) g s path

unfoldable pub ask_inner : SetCount → Got Sound → List ℕ → List ℕ → Inner → ℕ → ℕ → PartAnswer
ask_inner m g s path w i j = said_of (inner_at m s w i j) g s path
