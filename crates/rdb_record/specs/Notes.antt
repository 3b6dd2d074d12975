-- Document 001, "Annotations": those of an entity or of a part of it.
-- Assumes nothing.
use Rattle.std.specs.Prelude.{Bool, List, [], ℕ}
use Rattle.number.specs.Choice.{when◌then◌else◌}
use Rattle.reading.specs.Got.{Got, got}
use Rattle.rdb_text.specs.declared.Class.TheVariants.{Utf8}
use Rattle.rdb_text.specs.declared.Text.{Text}
use Rattle.rdb_text.specs.Text.{read_texts}

-- "if annotated: Annotations"
unfoldable pub read_notes : Bool → List ℕ → ℕ → Got (List Text)
read_notes a s p = when a then read_texts Utf8 s p else got [] p
