-- What the check remembers, by offsets: texts, records and maps that were read well. A record gives the same however it was reached, but for refusals 36 and 37;
-- a map that is read again counts its entries again, and what a module's entries lead to is visited again.
-- Assumes nothing.
use Rattle.reading.specs.declared.Refusal.{Refusal}
use Rattle.std.specs.Prelude.{◌≡◌, true, List, ℕ, ◌+◌, ◌-◌, ◌*◌, get_or, Err, Ok, Result}
use Rattle.number.specs.Choice.{when◌then◌else◌, ◌<?◌}
use Rattle.number.specs.Number.{le}
use Rattle.reading.specs.Got.{Accepted}
use Rattle.rdb_seen.specs.Marks.{marked}
use Rattle.rdb_memory.specs.Memory.{mark_cells, text_cells, other_marks, Remembers}
use Rattle.rdb_map.specs.Map.{visit_limit, entry_place, read_map}
use Rattle.rdb_interface.specs.declared.SetCount.{SetCount}
use Rattle.rdb_record.specs.Constant.{read_constant}
use Rattle.rdb_file.specs.Kind.{module_kind}
use Rattle.rdb_file.specs.Visit.{count_place, map_place, visit_record}

-- the texts' cells, and two marks for each offset: of an entity, and of a constant
abbrev pub seen_cells : ℕ
seen_cells = text_cells + mark_cells

abbrev pub entity_mark : ℕ → ℕ
entity_mark o = other_marks + 2 * o

abbrev pub constant_mark : ℕ → ℕ
constant_mark o = other_marks + 2 * o + 1

-- the map at `at` with n entries again, after v entries
unfoldable pub count_again : ℕ → ℕ → ℕ → Result ℕ Refusal
count_again v n at =
    when visit_limit <? v + n then Err (record { no = 37; place = entry_place at (visit_limit - v) }) else
    Ok (entry_place at n)

-- what an entity's mark stands for: the map of a module, all of another record
pub record Known (m : SetCount) (s : List ℕ) (o : ℕ) : Type 0 where
  pub entries : get_or s o 0 ≡ module_kind → (v : ℕ) × Accepted (read_map s o v (le 4 s (count_place o)) (map_place o))
  pub whole : (get_or s o 0 ≡ module_kind → ⊥) → (v : ℕ) × Accepted (visit_record m s (get_or s o 0) o v)

-- each mark stands for what was read
pub record Settled (m : SetCount) (s seen : List ℕ) : Type 0 where
  pub entity : (o : ℕ) → marked seen (entity_mark o) ≡ true → Known m s o
  pub constant : (o : ℕ) → marked seen (constant_mark o) ≡ true → Accepted (read_constant s o)
  pub texts : Remembers s seen

-- in one reading
pub record Trusted (s seen : List ℕ) : Type 0 where
  pub reading : SetCount
  pub settled : Settled reading s seen

-- whatever the reading, marks that were added stand for what was read
pub record Keeps (s seen after : List ℕ) : Type 0 where
  pub still : (m : SetCount) → Settled m s seen → Settled m s after

-- the record at o with the kind byte k was read well, in one reading
pub record Visited (s : List ℕ) (k o : ℕ) : Type 0 where
  pub reading : SetCount
  pub before : ℕ
  pub accepted : Accepted (visit_record reading s k o before)
