-- No interface that a file's maps lead to has a read-only attribute, as far as it can be read. A test: it has an answer for every file.
-- Assumes nothing.
use Rattle.std.specs.Prelude.{Bool, true, false, List, ℕ, zero, suc, ◌+◌, get_or}
use Rattle.number.specs.Choice.{when◌then◌else◌, ◌=?◌}
use Rattle.number.specs.Number.{le}
use Rattle.reading.specs.Got.{Got, got, bad}
use Rattle.rdb_text.specs.Field.{uint, counted}
use Rattle.rdb_interface.specs.declared.SetCount.TheVariants.{Always, UnlessReadOnly}
use Rattle.rdb_interface.specs.Interface.{has_sets, read_base, read_attribute}
use Rattle.rdb_file.specs.Kind.{is_annotated, kind_of, module_kind, interface_kind}
use Rattle.rdb_file.specs.Visit.{module_limit, count_place, map_place}
use Rattle.rdb_file.specs.File.{root_at, root_count}
use Rattle.rdb_path.specs.Path.{payload_at}

-- the test goes on after what was read
unfoldable pub goes_on : {X : Type 0} → Got X → (X → ℕ → Bool) → Bool
goes_on (got x e) k = k x e
goes_on (bad n q) k = true

-- none of the n attributes from p on is read-only
unfoldable pub plain_run : Bool → List ℕ → ℕ → ℕ → Bool
plain_run a s zero p = true
plain_run a s (suc n) p =
    when has_sets UnlessReadOnly (get_or s p 0) then goes_on (read_attribute Always a s p) (λ _ e. plain_run a s n e) else false

-- none of the interface at p, after its kind byte
unfoldable pub plain_interface : Bool → List ℕ → ℕ → Bool
plain_interface a s p =
    goes_on (counted (read_base a s) s p) λ _ e.
    goes_on (counted (read_base a s) s e) λ _ e.
    goes_on (uint 4 s e) λ n e.
    plain_run a s n e

unfoldable pub plain_record : List ℕ → ℕ → Bool
plain_record s o = when kind_of (get_or s o 0) =? interface_kind then plain_interface (is_annotated (get_or s o 0)) s (o + 1) else true

-- of what n entries of the map at `at` lead to, from entry i on
unfoldable pub plain_each : (ℕ → Bool) → List ℕ → ℕ → ℕ → ℕ → Bool
plain_each plain s at zero i = true
plain_each plain s at (suc n) i = when plain (payload_at s at i) then plain_each plain s at n (i + 1) else false

-- of the entity at o, where so many more modules may be entered
unfoldable pub plain_entity : ℕ → List ℕ → ℕ → Bool
plain_entity zero s o = plain_record s o
plain_entity (suc left) s o =
    when get_or s o 0 =? module_kind then plain_each (plain_entity left s) s (map_place o) (le 4 s (count_place o)) 0 else
    plain_record s o

unfoldable pub plain_file : List ℕ → Bool
plain_file s = plain_each (plain_entity module_limit s) s (root_at s) (root_count s) 0
