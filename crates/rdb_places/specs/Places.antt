-- Where the elements of those lists stand.
-- Assumes nothing.
use Rattle.std.specs.Prelude.{Bool, List, ℕ, ◌+◌, get_or, None, Option, Some}
use Rattle.number.specs.Choice.{when◌then◌else◌, ◌<?◌, ◌=?◌}
use Rattle.number.specs.Number.{le}
use Rattle.rdb_map.specs.Map.{entry_place}
use Rattle.rdb_interface.specs.declared.SetCount.{SetCount}
use Rattle.rdb_file.specs.Kind.{is_annotated, kind_of, enum_kind, interface_kind, group_kind}
use Rattle.rdb_file.specs.Visit.{count_place, map_place}
use Rattle.rdb_ends.specs.declared.Item.{Item}
use Rattle.rdb_ends.specs.declared.Item.TheVariants.{Member, Base, Attribute, Method}
use Rattle.rdb_ends.specs.Ends.{after, item_end, items_end}

-- element i of the counted list at `at`
unfoldable pub place_in : (ℕ → ℕ) → List ℕ → ℕ → ℕ → Option ℕ
place_in end s at i = when i <? le 4 s at then Some (after end i (at + 4)) else None

-- the lists of an interface after its kind byte at o, one after the other; a: whether it is annotated
unfoldable pub optionals_at : SetCount → Bool → List ℕ → ℕ → ℕ
optionals_at m a s o = items_end Base m a s (o + 1)

unfoldable pub attributes_at : SetCount → Bool → List ℕ → ℕ → ℕ
attributes_at m a s o = items_end Base m a s (optionals_at m a s o)

unfoldable pub methods_at : SetCount → Bool → List ℕ → ℕ → ℕ
methods_at m a s o = items_end Attribute m a s (attributes_at m a s o)

unfoldable pub own_notes_at : SetCount → Bool → List ℕ → ℕ → ℕ
own_notes_at m a s o = items_end Method m a s (methods_at m a s o)

-- element i of the list of such items at `at` of the entity at o, if that is of kind k
unfoldable pub own_place : ℕ → Item → SetCount → List ℕ → ℕ → ℕ → ℕ → Option ℕ
own_place k w m s at o i = when kind_of (get_or s o 0) =? k then place_in (item_end w m (is_annotated (get_or s o 0)) s) s at i else None

unfoldable pub member_place : SetCount → List ℕ → ℕ → ℕ → Option ℕ
member_place m s o i = own_place enum_kind Member m s (o + 1) o i

unfoldable pub base_place : SetCount → List ℕ → ℕ → ℕ → Option ℕ
base_place m s o i = own_place interface_kind Base m s (o + 1) o i

unfoldable pub optional_place : SetCount → List ℕ → ℕ → ℕ → Option ℕ
optional_place m s o i = own_place interface_kind Base m s (optionals_at m (is_annotated (get_or s o 0)) s o) o i

unfoldable pub attribute_place : SetCount → List ℕ → ℕ → ℕ → Option ℕ
attribute_place m s o i = own_place interface_kind Attribute m s (attributes_at m (is_annotated (get_or s o 0)) s o) o i

unfoldable pub method_place : SetCount → List ℕ → ℕ → ℕ → Option ℕ
method_place m s o i = own_place interface_kind Method m s (methods_at m (is_annotated (get_or s o 0)) s o) o i

-- the counted annotations of the entity at o
unfoldable pub notes_place : SetCount → List ℕ → ℕ → Option ℕ
notes_place m s o =
    when is_annotated (get_or s o 0) then
    when kind_of (get_or s o 0) =? enum_kind then Some (items_end Member m (is_annotated (get_or s o 0)) s (o + 1)) else
    when kind_of (get_or s o 0) =? interface_kind then Some (own_notes_at m (is_annotated (get_or s o 0)) s o) else
    when kind_of (get_or s o 0) =? group_kind then Some (entry_place (map_place o) (le 4 s (count_place o))) else
    None
    else None
