-- What a buffer gets of a text from a place on.
-- Assumes nothing.
use Rattle.std.specs.Prelude.{◌≡◌, List, ℕ, ◌+◌, ◌≤◌, length, take, drop}
use Rattle.std.proofs.lemmas.List.Edits.{sets}
use Rattle.number.specs.Choice.{when◌then◌else◌, ◌<?◌, ◌≤?◌}
use Rattle.rdb_told.specs.declared.Filled.{Filled}

-- bytes of a buffer
abbrev pub buffer_room : ℕ
buffer_room = 65536

-- as many as the buffer has
abbrev pub bytes_from : ℕ → List ℕ → List ℕ
bytes_from place text = take buffer_room (drop place text)

-- they are at the front of the buffer, nothing else was changed, and r tells how many they are, the place after them, and whether they are the last
pub record Fills (text : List ℕ) (place : ℕ) (before : List ℕ) (r : Filled) (after : List ℕ) : Type 0 where
  pub long : r.length ≡ length (bytes_from place text)
  pub stored : after ≡ sets before 0 (bytes_from place text)
  pub next : r.place ≡ place + r.length
  pub last : r.ends ≡ (length text ≤? place + buffer_room)
  pub inside : r.length ≤ length after

-- the lesser of two
unfoldable pub least : ℕ → ℕ → ℕ
least a b = when a <? b then a else b
