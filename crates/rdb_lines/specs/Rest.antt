-- What is left of the listing at a cursor, and what each buffer gives of it.
-- Assumes nothing.
use Rattle.std.specs.Prelude.{◌≡◌, List, [], ◌++◌, ℕ, ◌+◌, ◌-◌, ◌≤◌, ◌<◌, length, drop, None, Option, Some}
use Rattle.std.proofs.lemmas.List.Edits.{sets}
use Rattle.rdb_path.specs.Reached.{Checked}
use Rattle.rdb_list.specs.Listed.{list_of}
use Rattle.rdb_line.specs.Text.{lines_text}
use Rattle.rdb_line.specs.Spelt.{line_room}
use Rattle.rdb_lines.specs.declared.Cursor.{Cursor}
use Rattle.rdb_lines.specs.declared.Filled.{Filled}
use Rattle.rdb_lines.specs.declared.Pass.{Pass}
use Rattle.rdb_lines.specs.Walk.{buffer_bytes}

-- the listing of an accepted file
unfoldable pub paths_text : List ℕ → List ℕ
paths_text s = lines_text (list_of s)

-- where it begins
abbrev pub first : Cursor
first = record { line = 0; place = 0 }

-- what is left of it
unfoldable pub left_at : List ℕ → Cursor → List ℕ
left_at s c = drop c.place (lines_text (drop c.line (list_of s)))

-- at the end of a buffer that begins at c, where the lines were passed so far: in the last of them
abbrev pub next_cursor : Cursor → Pass → Cursor
next_cursor c p = record { line = c.line + (p.lines - 1); place = c.place + buffer_bytes - p.mark }

unfoldable pub left_in : List ℕ → Option Cursor → List ℕ
left_in s None = []
left_in s (Some c) = left_at s c

-- no more buffers than this are left
unfoldable pub buffers : List ℕ → Option Cursor → ℕ
buffers s None = 0
buffers s (Some c) = 1 + length (left_at s c)

-- a buffer begins no farther from its line's first byte than a line is long
abbrev pub Near : Option Cursor → Type 0
Near None = Unit {0}
Near (Some c) = c.place ≤ line_room

pub record Begun (s : List ℕ) (c : Cursor) : Type 0 where
  pub checked : Checked s
  pub near : Near (Some c)

-- of what is left at c, the first part is at the front of the buffer, nothing else was changed, and the rest is left
pub record Fills (s : List ℕ) (c : Cursor) (before : List ℕ) (r : Filled) (after : List ℕ) : Type 0 where
  pub bytes : List ℕ
  pub split : left_at s c ≡ bytes ++ left_in s r.rest
  pub long : r.length ≡ length bytes
  pub stored : after ≡ sets before 0 bytes
  pub near : Near r.rest
  pub fewer : buffers s r.rest < buffers s (Some c)
  pub inside : r.length ≤ length after
