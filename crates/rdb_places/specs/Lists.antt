-- Document 001: the counted lists of the entity at o, by its kind; an entity of another kind has none of them.
-- Assumes nothing.
use Rattle.std.specs.Prelude.{List, [], ℕ, ◌+◌, get_or}
use Rattle.number.specs.Choice.{when◌then◌else◌, ◌=?◌}
use Rattle.number.specs.Number.{le}
use Rattle.reading.specs.Got.{Got, got, bad}
use Rattle.rdb_text.specs.declared.Text.{Text}
use Rattle.rdb_map.specs.Map.{entry_place}
use Rattle.rdb_record.specs.Notes.{read_notes}
use Rattle.rdb_record.specs.Enum.{Member, Enum, enum, read_enum}
use Rattle.rdb_interface.specs.declared.SetCount.{SetCount}
use Rattle.rdb_interface.specs.Interface.{Base, Attribute, Method, Interface, interface, read_interface}
use Rattle.rdb_file.specs.Kind.{is_annotated, kind_of, module_kind, enum_kind, interface_kind, group_kind}
use Rattle.rdb_file.specs.Visit.{count_place, map_place}

-- ---- of what was read

unfoldable pub enum_members : Enum → List Member
enum_members (enum ms ns) = ms

unfoldable pub enum_notes : Enum → List Text
enum_notes (enum ms ns) = ns

unfoldable pub interface_bases : Interface → List Base
interface_bases (interface bs os xs ms ns) = bs

unfoldable pub interface_optionals : Interface → List Base
interface_optionals (interface bs os xs ms ns) = os

unfoldable pub interface_attributes : Interface → List Attribute
interface_attributes (interface bs os xs ms ns) = xs

unfoldable pub interface_methods : Interface → List Method
interface_methods (interface bs os xs ms ns) = ms

unfoldable pub interface_notes : Interface → List Text
interface_notes (interface bs os xs ms ns) = ns

-- what the check read is never refused here
unfoldable pub listed : {X Y : Type 0} → (X → List Y) → Got X → List Y
listed f (got x e) = f x
listed f (bad n q) = []

-- ---- of the entity at o

unfoldable pub enum_at : List ℕ → ℕ → Got Enum
enum_at s o = read_enum (is_annotated (get_or s o 0)) s (o + 1)

unfoldable pub interface_at : SetCount → List ℕ → ℕ → Got Interface
interface_at m s o = read_interface m (is_annotated (get_or s o 0)) s (o + 1)

-- the annotations of a constant group stand after its entries
unfoldable pub group_notes_at : List ℕ → ℕ → Got (List Text)
group_notes_at s o = read_notes (is_annotated (get_or s o 0)) s (entry_place (map_place o) (le 4 s (count_place o)))

unfoldable pub members_of : List ℕ → ℕ → List Member
members_of s o = when kind_of (get_or s o 0) =? enum_kind then listed enum_members (enum_at s o) else []

-- a list of an interface
unfoldable pub interface_list : {Y : Type 0} → (Interface → List Y) → SetCount → List ℕ → ℕ → List Y
interface_list f m s o = when kind_of (get_or s o 0) =? interface_kind then listed f (interface_at m s o) else []

unfoldable pub notes_of : SetCount → List ℕ → ℕ → List Text
notes_of m s o =
    when kind_of (get_or s o 0) =? enum_kind then listed enum_notes (enum_at s o) else
    when kind_of (get_or s o 0) =? interface_kind then listed interface_notes (interface_at m s o) else
    when kind_of (get_or s o 0) =? group_kind then listed (λ ns. ns) (group_notes_at s o) else
    []

-- the number of constants of a group
unfoldable pub constant_count : List ℕ → ℕ → ℕ
constant_count s o = when kind_of (get_or s o 0) =? group_kind then le 4 s (count_place o) else 0

-- the number of entries of a module or a group
unfoldable pub entry_count : List ℕ → ℕ → ℕ
entry_count s o = when get_or s o 0 =? module_kind then le 4 s (count_place o) else constant_count s o
