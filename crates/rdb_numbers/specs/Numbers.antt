-- Answers about a types.rdb as numbers, by the number of a reading.
-- Assumes nothing.
use Rattle.rdb_value.specs.declared.Value.{Value}
use Rattle.rdb.specs.declared.Entity.{Entity}
use Rattle.reading.specs.declared.Refusal.{Refusal}
use Rattle.std.specs.Prelude.{List, [], ◌∷◌, ℕ, Err, None, Ok, Option, Result, Some}
use Rattle.number.specs.Choice.{when◌then◌else◌, ◌=?◌}
use Rattle.lookup.specs.Question.{malformed}
use Rattle.numbers.specs.Numbers.{refusal_numbers}
use Rattle.rdb_interface.specs.declared.SetCount.{SetCount}
use Rattle.rdb_interface.specs.declared.SetCount.TheVariants.{Always, UnlessReadOnly}
use Rattle.rdb_value.specs.Value.{value_kind, stored_of}
use Rattle.rdb_file.specs.File.{read_file, verdict_of}
use Rattle.rdb.specs.Questions.{ask_entity, ask_constant}

-- 0: as document 001 says; 1: as office suites write. With another number a question is malformed, whatever the file is
unfoldable pub by_reading : {X : Type 0} → (SetCount → X) → X → ℕ → X
by_reading f other r =
    when r =? 0 then f Always else
    when r =? 1 then f UnlessReadOnly else
    other

unfoldable pub check_by : ℕ → List ℕ → Result ℕ Refusal
check_by r s = by_reading (λ m. verdict_of (read_file m s)) (Err malformed) r

unfoldable pub entity_by : ℕ → List ℕ → List ℕ → Result (Option Entity) Refusal
entity_by r s path = by_reading (λ m. ask_entity (read_file m s) s path) (Err malformed) r

unfoldable pub constant_by : ℕ → List ℕ → List ℕ → Result (Option Value) Refusal
constant_by r s path = by_reading (λ m. ask_constant (read_file m s) s path) (Err malformed) r

-- kind byte and offset
unfoldable pub entity_numbers : Result (Option Entity) Refusal → List ℕ
entity_numbers (Ok (Some x)) = 0 ∷ x.kind ∷ x.offset ∷ []
entity_numbers (Ok None) = 1 ∷ []
entity_numbers (Err why) = refusal_numbers why

-- kind, 0 to 9, and the value as stored
unfoldable pub constant_numbers : Result (Option Value) Refusal → List ℕ
constant_numbers (Ok (Some v)) = 0 ∷ value_kind v ∷ stored_of v ∷ []
constant_numbers (Ok None) = 1 ∷ []
constant_numbers (Err why) = refusal_numbers why
