-- Room for more files: where it is wanting, nothing that was kept is kept on.
-- Assumes nothing.
use Rattle.std.specs.Prelude.{ℕ, ◌+◌, ◌*◌, ◌≤◌}
use Rattle.paths.specs.Path.{path_limit}
use Rattle.number.specs.Limits.{file_most}
use Rattle.number.specs.Choice.{when◌then◌else◌, ◌<?◌}
use Rattle.kept.specs.declared.Kept.{Kept}

-- the most that one file takes: the longest name, and as many bytes as are read
abbrev pub file_bytes : ℕ
file_bytes = path_limit + file_most

-- the bytes of the store: two files that one command names always fit
abbrev pub store_bytes : ℕ
store_bytes = 3 * file_bytes

-- n files more fit
abbrev pub Roomy : ℕ → Kept → Type 0
Roomy n kept = (kept.rows + n ≤ 64) × (kept.used + n * file_bytes ≤ store_bytes)

abbrev pub nothing_kept : Kept
nothing_kept = record { rows = 0; used = 0 }

-- what is kept on, so that n files more fit
unfoldable pub with_room : Kept → ℕ → Kept
with_room kept n =
    when 64 <? kept.rows + n then nothing_kept else
    when store_bytes <? kept.used + n * file_bytes then nothing_kept else
    kept
