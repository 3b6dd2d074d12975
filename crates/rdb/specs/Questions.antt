-- Request #105: what a question is answered. The file's refusal comes first; a path that isn't there is none, and no path is malformed.
-- Assumes nothing.
use Rattle.rdb_value.specs.declared.Value.{Value}
use Rattle.reading.specs.declared.Refusal.{Refusal}
use Rattle.rdb.specs.declared.Entity.{Entity}
use Rattle.std.specs.Prelude.{List, ℕ, get_or, Err, None, Ok, Option, Result, Some}
use Rattle.std.proofs.Math.Option.{Option as Found, none, some}
use Rattle.reading.specs.Got.{Got, got, bad}
use Rattle.rdb_record.specs.Constant.{Constant, constant, read_constant}
use Rattle.rdb_value.specs.Value.{value_of}
use Rattle.rdb_file.specs.Visit.{Sound}
use Rattle.rdb_path.specs.Path.{cut, entity_at, constant_at}

-- "An entity's answer is its kind byte and offset"
unfoldable pub entity_found : List ℕ → Found ℕ → Result (Option Entity) Refusal
entity_found s none = Ok None
entity_found s (some o) = Ok (Some (record { kind = get_or s o 0; offset = o }))

-- what the check read is never refused here
unfoldable pub constant_said : Got Constant → Result (Option Value) Refusal
constant_said (got (constant k v ns) e) = Ok (Some (value_of k v))
constant_said (bad n q) = Ok None

unfoldable pub constant_found : List ℕ → Found ℕ → Result (Option Value) Refusal
constant_found s none = Ok None
constant_found s (some o) = constant_said (read_constant s o)

-- the answer about the file s, which the check read so
unfoldable pub ask_entity : Got Sound → List ℕ → List ℕ → Result (Option Entity) Refusal
ask_entity (bad n q) s path = Err (record { no = n; place = q })
ask_entity (got x v) s path = entity_found s (entity_at s (cut path))

unfoldable pub ask_constant : Got Sound → List ℕ → List ℕ → Result (Option Value) Refusal
ask_constant (bad n q) s path = Err (record { no = n; place = q })
ask_constant (got x v) s path = constant_found s (constant_at s (cut path))
