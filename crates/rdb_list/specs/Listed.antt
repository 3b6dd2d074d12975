-- The listing of `xpt rdb list`: every path of an accepted file, depth first in map order, with what it leads to. An entity stands before what it holds.
-- A key may have a dot: its path, joined, may be that of another entry, and no path leads to it, nor to what it holds.
-- Assumes nothing.
use Rattle.std.specs.Prelude.{List, [], ◌∷◌, ◌++◌, ℕ, zero, suc, ◌+◌, ◌%◌, get_or}
use Rattle.number.specs.Choice.{when◌then◌else◌, ◌=?◌}
use Rattle.number.specs.Number.{le}
use Rattle.rdb_map.specs.Map.{entry_place, key_at}
use Rattle.rdb_record.specs.Constant.{value_size}
use Rattle.rdb_value.specs.declared.Value.{Value}
use Rattle.rdb_value.specs.Value.{value_of}
use Rattle.rdb_file.specs.Kind.{kind_of, module_kind, group_kind}
use Rattle.rdb_file.specs.Visit.{module_limit, count_place, map_place}
use Rattle.rdb_file.specs.File.{root_at, root_count}
use Rattle.rdb_path.specs.Path.{payload_at}

-- the words of a path, with an entity's kind byte and offset, or a constant's value
pub data Line : Type 0 where
  entity_line : List (List ℕ) → ℕ → ℕ → Line
  constant_line : List (List ℕ) → Value → Line

-- the path to entry i of the map at `at`, which the words ws lead to
unfoldable pub path_to : List ℕ → List (List ℕ) → ℕ → ℕ → List (List ℕ)
path_to s ws at i = ws ++ (key_at s (entry_place at i) ∷ [])

-- the value of the constant at q
unfoldable pub value_in : List ℕ → ℕ → Value
value_in s q = value_of (get_or s q 0 % 128) (le (value_size (get_or s q 0 % 128)) s (q + 1))

-- n constants of a group's map, from entry i on
unfoldable pub constant_lines : List ℕ → List (List ℕ) → ℕ → ℕ → ℕ → List Line
constant_lines s ws at zero i = []
constant_lines s ws at (suc n) i = constant_line (path_to s ws at i) (value_in s (payload_at s at i)) ∷ constant_lines s ws at n (i + 1)

-- n entities of a map, from entry i on, each with what it holds
unfoldable pub entity_lines : (List (List ℕ) → ℕ → List Line) → List ℕ → List (List ℕ) → ℕ → ℕ → ℕ → List Line
entity_lines held s ws at zero i = []
entity_lines held s ws at (suc n) i =
    entity_line (path_to s ws at i) (get_or s (payload_at s at i) 0) (payload_at s at i)
    ∷ (held (path_to s ws at i) (payload_at s at i) ++ entity_lines held s ws at n (i + 1))

-- the constants that the entity at o holds, where it is a group
unfoldable pub group_lines : List ℕ → List (List ℕ) → ℕ → List Line
group_lines s ws o = when kind_of (get_or s o 0) =? group_kind then constant_lines s ws (map_place o) (le 4 s (count_place o)) 0 else []

-- what the entity at o holds, where so many more modules may be entered
unfoldable pub held_lines : ℕ → List ℕ → List (List ℕ) → ℕ → List Line
held_lines zero s ws o = group_lines s ws o
held_lines (suc left) s ws o =
    when get_or s o 0 =? module_kind then entity_lines (held_lines left s) s ws (map_place o) (le 4 s (count_place o)) 0 else
    group_lines s ws o

unfoldable pub list_of : List ℕ → List Line
list_of s = entity_lines (held_lines module_limit s) s [] (root_at s) (root_count s) 0
