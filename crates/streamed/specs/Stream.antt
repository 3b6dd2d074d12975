-- What is left of an answer, what it begins with, and what each buffer after that gives.
-- Assumes nothing.
use Rattle.std.specs.Prelude.{◌≡◌, Bool, true, false, ◌⊎◌, List, ◌++◌, ℕ, ◌+◌, ◌-◌, ◌≤◌, ◌<◌, length, drop, None, Option, Some}
use Rattle.lines.specs.declared.Cursor.TheVariants.{Done}
use Rattle.said.specs.declared.Said.{Said}
use Rattle.said.specs.declared.Why.TheVariants.{Answered}
use Rattle.said.specs.Saying.{Saying}
use Rattle.listed.specs.declared.Opened.{Opened}
use Rattle.listed.specs.Text.{shown, closing}
use Rattle.listed.specs.Rest as rest
use Rattle.rdb_parts.specs.declared.PartAnswer.{PartAnswer}
use Rattle.rdb_told.specs.Told.{part_text, part_why, Small}
use Rattle.rdb_lines.specs.declared.Cursor.{Cursor}
use Rattle.rdb_lines.specs.Rest as lines
use Rattle.streamed.specs.declared.Telling.{Telling}
use Rattle.streamed.specs.declared.Stream.{Stream}
use Rattle.streamed.specs.declared.Stream.TheVariants.{Lines, Part, Paths}
use Rattle.streamed.specs.declared.Begun.{Begun}
use Rattle.streamed.specs.declared.Turn.{Turn}

-- nothing is left
abbrev pub no_rest : Stream
no_rest = Lines rest.no_rest

unfoldable pub is_over : Stream → Bool
is_over (Lines r) = rest.is_over r
is_over (Part x) = false
is_over (Paths c) = false

-- a line that is all of the answer
abbrev pub spoken : Said → Begun
spoken said = record { said = said; rest = no_rest }

-- what a listing or a table begins with
abbrev pub listing : Opened → Begun
listing x = record { said = x.said; rest = Lines x.rest }

-- the line about a part, from its first byte on
abbrev pub telling : PartAnswer → Begun
telling a = record { said = record { length = 0; why = part_why a }; rest = Part (record { answer = a; place = 0 }) }

-- every path of a types.rdb, from the first on
abbrev pub paths : Begun
paths = record { said = record { length = 0; why = Answered }; rest = Paths lines.first }

-- the rest of that line
unfoldable pub after_part : PartAnswer → ℕ → Bool → Stream
after_part a place true = no_rest
after_part a place false = Part (record { answer = a; place = place })

-- the rest of paths: after the last, in a batch, their line is closed
unfoldable pub after_paths : Bool → Option Cursor → Stream
after_paths in_batch (Some c) = Paths c
after_paths in_batch None = Lines (rest.rest_of (record { count = 0; directory = 0; pool = 0 }) in_batch Done)

-- the line about a part of the file s, from a place on
pub record Tells (s : List ℕ) (x : Telling) (text : List ℕ) : Type 0 where
  pub small : Small s x.answer
  pub whole : text ≡ drop x.place (part_text s x.answer)

-- the paths of the file s as they are answered, from a cursor on, and what ends them
pub record Shows (in_batch : Bool) (s : List ℕ) (c : Cursor) (text : List ℕ) : Type 0 where
  pub begun : lines.Begun s c
  pub whole : text ≡ shown in_batch (lines.left_at s c) ++ closing in_batch

-- the text that is left
abbrev pub LeftOf : Bool → List ℕ → Stream → List ℕ → Type 0
LeftOf in_batch s (Lines r) text = rest.LeftIn in_batch s r text
LeftOf in_batch s (Part x) text = Tells s x text
LeftOf in_batch s (Paths c) text = Shows in_batch s c text

-- no more buffers than this are left
unfoldable pub buffers : List ℕ → Stream → ℕ
buffers s (Lines r) = rest.buffers r
buffers s (Part x) = 1 + (length (part_text s x.answer) - x.place)
buffers s (Paths c) = 2 + lines.buffers s (Some c)

-- the answer x begins at the front of the buffer, nothing else was changed, and the rest is left
abbrev pub Opens : Bool → Saying → List ℕ → List ℕ → Begun → List ℕ → Type 0
Opens in_batch x s before r after = rest.Begins (λ z. LeftOf in_batch s r.rest z) x before r.said after

-- a buffer was filled: so it is of any text that is left, and fewer are left where one was
pub record Turned (in_batch : Bool) (s : List ℕ) (x : Stream) (before : List ℕ) (r : Turn) (after : List ℕ) : Type 0 where
  pub each : (text : List ℕ) → LeftOf in_batch s x text → rest.Gives (λ z. LeftOf in_batch s r.rest z) text before r.length after
  pub fewer : (is_over x ≡ true) ⊎ (buffers s r.rest < buffers s x)
  pub inside : r.length ≤ length after
