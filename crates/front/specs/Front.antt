-- What stands before the directory of a file of c entries and `len` bytes, of this minor.
-- Assumes nothing.
use Rattle.std.specs.Prelude.{List, ◌++◌, ℕ, ◌+◌, ◌*◌}
use Rattle.number.specs.Limits.{entry_width}
use Rattle.number.specs.Choice.{when◌then◌else◌, ◌=?◌}
use Rattle.reader.specs.Values.{Header}
use Rattle.meaning.specs.Normal.Normal.{header_bytes, note_bytes}

unfoldable pub directory_at : ℕ → ℕ
directory_at c = when c =? 0 then 0 else 36

unfoldable pub front_header : ℕ → ℕ → Header
front_header minor c = record { minor = minor; count = c; directory = directory_at c; pool = 36 + entry_width * c }

unfoldable pub front_bytes : ℕ → ℕ → ℕ → List ℕ
front_bytes minor c len = header_bytes (front_header minor c) len ++ note_bytes
