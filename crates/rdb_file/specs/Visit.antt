-- Request #105: everything reachable, depth first in map order, a record with its map entries before what they lead to.
-- What a visit gives is how many entries have been visited by its end, from the start: it stands where a reading's end stands.
-- Assumes nothing.
use Rattle.std.specs.Prelude.{List, [], ◌∷◌, ℕ, zero, suc, ◌+◌}
use Rattle.number.specs.Choice.{when◌then◌else◌, ◌=?◌}
use Rattle.reading.specs.Got.{Got, got, bad, next}
use Rattle.rdb_text.specs.Field.{byte_at, uint}
use Rattle.rdb_map.specs.Map.{Entry, entry_at, entry_payload, read_map}
use Rattle.rdb_interface.specs.declared.SetCount.{SetCount}
use Rattle.rdb_record.specs.Notes.{read_notes}
use Rattle.rdb_record.specs.Enum.{read_enum}
use Rattle.rdb_interface.specs.Interface.{read_interface}
use Rattle.rdb_record.specs.Constant.{read_constant}
use Rattle.rdb_file.specs.Kind.{is_annotated, kind_of, module_kind, enum_kind, interface_kind, group_kind, is_reserved}

-- "at most 16 modules deep"
abbrev pub module_limit : ℕ
module_limit = 16

-- nothing more is known of what was visited
pub data Sound : Type 0 where
  sound : Sound

-- What entries lead to, in turn, where v entries were visited before; a visit is given an entry's offset and its payload's.
unfoldable pub each : (ℕ → ℕ → ℕ → Got Sound) → List Entry → ℕ → Got Sound
each visit [] v = got sound v
each visit (x ∷ xs) v =
    next (visit (entry_at x) (entry_payload x) v) λ _ v.
    each visit xs v

-- a record that leads nowhere
unfoldable pub alone : {X : Type 0} → Got X → ℕ → Got Sound
alone g v = next g λ _ _. got sound v

unfoldable pub visit_constant : List ℕ → ℕ → ℕ → ℕ → Got Sound
visit_constant s p o v = alone (read_constant s o) v

-- where a module's or a constant group's number of entries stands, by its kind byte's place, and then its map
abbrev pub count_place : ℕ → ℕ
count_place o = o + 1

abbrev pub map_place : ℕ → ℕ
map_place o = o + 5

-- a constant group at o with the kind byte k: its entries and annotations, then its constants
unfoldable pub visit_group : List ℕ → ℕ → ℕ → ℕ → Got Sound
visit_group s k o v =
    next (uint 4 s (count_place o)) λ n e.
    next (read_map s o v n e) λ es e.
    next (read_notes (is_annotated k) s e) λ _ _.
    each (visit_constant s) es (v + n)

-- a module at o: its entries, then what they lead to
unfoldable pub visit_module : (ℕ → ℕ → ℕ → Got Sound) → List ℕ → ℕ → ℕ → Got Sound
visit_module below s o v =
    next (uint 4 s (count_place o)) λ n e.
    next (read_map s o v n e) λ es _.
    each below es (v + n)

-- what is neither module nor reserved, at o with the kind byte k; the other kinds are not opened
unfoldable pub visit_record : SetCount → List ℕ → ℕ → ℕ → ℕ → Got Sound
visit_record m s k o v =
    when kind_of k =? enum_kind then alone (read_enum (is_annotated k) s (o + 1)) v else
    when kind_of k =? interface_kind then alone (read_interface m (is_annotated k) s (o + 1)) v else
    when kind_of k =? group_kind then visit_group s k o v else
    got sound v

-- the entity at o; `inner` visits it if it is a module
unfoldable pub visit_with : SetCount → (ℕ → ℕ → Got Sound) → List ℕ → ℕ → ℕ → Got Sound
visit_with m inner s o v =
    next (byte_at s o) λ k _.
    when k =? module_kind then inner o v else
    when is_reserved k then bad 34 o else
    visit_record m s k o v

-- what the entry at p leads to, at o, where so many more modules may be entered: 36 at the entry of one too many
unfoldable pub visit_entity : SetCount → ℕ → List ℕ → ℕ → ℕ → ℕ → Got Sound
visit_entity m zero s p o v = visit_with m (λ o v. bad 36 p) s o v
visit_entity m (suc left) s p o v = visit_with m (visit_module (visit_entity m left s) s) s o v
