-- Which bytes a text may have: US-ASCII for UNOIDL related names, UTF-8 for annotations.
-- Assumes nothing.
use Rattle.std.specs.Prelude.{Bool, List, ℕ}
use Rattle.rdb_runs.specs.Bytes.{is_ascii, is_utf8}
use Rattle.rdb_text.specs.declared.Class.{Class}
use Rattle.rdb_text.specs.declared.Class.TheVariants.{Ascii, Utf8}

unfoldable pub suits : Class → List ℕ → Bool
suits Ascii w = is_ascii w
suits Utf8 w = is_utf8 w
