-- What is said of a types.rdb, read as m says: its check, an entity by its path, a constant.
-- Assumes nothing.
use Rattle.rdb_value.specs.declared.Value.{Value}
use Rattle.reading.specs.declared.Refusal.{Refusal}
use Rattle.std.specs.Prelude.{List, ◌++◌, ℕ, Err, None, Ok, Option, Result, Some}
use Rattle.decimal.specs.Digits.{digits_of}
use Rattle.text.specs.Line.{space, newline}
use Rattle.said.specs.declared.Why.TheVariants.{Answered, Refused}
use Rattle.said.specs.Texts.{found, none_line, refused_line}
use Rattle.said.specs.Saying.{Saying, saying, say_verdict}
use Rattle.rdb_interface.specs.declared.SetCount.{SetCount}
use Rattle.rdb_file.specs.File.{read_file, verdict_of}
use Rattle.rdb.specs.declared.Entity.{Entity}
use Rattle.rdb.specs.Questions.{ask_entity, ask_constant}
use Rattle.rdb_shown.specs.Texts.{value_text}

-- `found KIND OFFSET`
abbrev pub entity_text : Entity → List ℕ
entity_text x = ((found ++ digits_of x.kind) ++ (space ++ digits_of x.offset)) ++ newline

-- that, `none` or `refused NO PLACE`
unfoldable pub say_entity : Result (Option Entity) Refusal → Saying
say_entity (Ok (Some x)) = saying (entity_text x) Answered
say_entity (Ok None) = saying none_line Answered
say_entity (Err why) = saying (refused_line why) (Refused why)

-- `found TYPE VALUE`, `none` or `refused NO PLACE`
unfoldable pub say_constant : Result (Option Value) Refusal → Saying
say_constant (Ok (Some v)) = saying ((found ++ value_text v) ++ newline) Answered
say_constant (Ok None) = saying none_line Answered
say_constant (Err why) = saying (refused_line why) (Refused why)

-- check FILE: `accepted ENTRIES` or `refused NO PLACE`
unfoldable pub check_saying : SetCount → List ℕ → Saying
check_saying m s = say_verdict (verdict_of (read_file m s))

-- entity FILE PATH
unfoldable pub entity_saying : SetCount → List ℕ → List ℕ → Saying
entity_saying m s path = say_entity (ask_entity (read_file m s) s path)

-- const FILE PATH
unfoldable pub constant_saying : SetCount → List ℕ → List ℕ → Saying
constant_saying m s path = say_constant (ask_constant (read_file m s) s path)
