-- What a buffer gets of lines that are met one after another, of which the first are left out.
-- Assumes nothing.
use Rattle.std.specs.Prelude.{◌≡◌, List, [], ◌∷◌, ℕ, ◌+◌, ◌-◌, ◌≤◌, length}
use Rattle.number.specs.Choice.{when◌then◌else◌, ◌<?◌}
use Rattle.number.specs.Limits.{file_limit}
use Rattle.rdb_list.specs.Listed.{Line}
use Rattle.window.specs.Window.{window}
use Rattle.rdb_line.specs.Text.{line_text}
use Rattle.rdb_line.specs.Spelt.{line_room, Spelt}
use Rattle.rdb_lines.specs.declared.Pass.{Pass}

-- bytes of a buffer
abbrev pub buffer_bytes : ℕ
buffer_bytes = 65536

-- before any line, where so many are to be left out
abbrev pub unpassed : ℕ → Pass
unpassed k = record { skip = k; lines = 0; place = 0; mark = 0 }

-- a line that is left out
abbrev pub skipped : Pass → Pass
skipped p = record { skip = p.skip - 1; lines = p.lines; place = p.place; mark = p.mark }

-- a line of n bytes that is passed
abbrev pub passed : ℕ → Pass → Pass
passed n p = record { skip = 0; lines = p.lines + 1; place = p.place + n; mark = p.place }

-- a line is met, by the buffer that shows the text from byte `from` on; after its end nothing changes
unfoldable pub stepped : ℕ → Line → Pass → Pass
stepped from x p =
    when p.place <? from + buffer_bytes then when 0 <? p.skip then skipped p else passed (length (line_text x)) p else
    p

unfoldable pub shown_line : ℕ → Line → Pass → List ℕ → List ℕ
shown_line from x p out =
    when p.place <? from + buffer_bytes then when 0 <? p.skip then out else window from p.place (line_text x) out else
    out

-- lines in turn: how far they were passed, and what the buffer gets
unfoldable pub pass_all : ℕ → List Line → Pass → Pass
pass_all from [] p = p
pass_all from (x ∷ xs) p = pass_all from xs (stepped from x p)

unfoldable pub show_all : ℕ → List Line → Pass → List ℕ → List ℕ
show_all from [] p out = out
show_all from (x ∷ xs) p out = show_all from xs (stepped from x p) (shown_line from x p out)

pub record Walked (from : ℕ) (xs : List Line) (p : Pass) (before : List ℕ) (r : Pass) (after : List ℕ) : Type 0 where
  pub state : r ≡ pass_all from xs p
  pub shown : after ≡ show_all from xs p before

-- so far that all can be counted
pub record Fit (from : ℕ) (p : Pass) : Type 0 where
  pub few : p.lines ≤ p.place
  pub last : p.place ≤ p.mark + line_room
  pub near : p.mark ≤ from + buffer_bytes

-- the path of the first d entries leads to what is passed
pub record Ready (s ps : List ℕ) (d from : ℕ) (p : Pass) : Type 0 where
  pub small : length s ≤ file_limit
  pub spelt : Spelt s ps d
  pub low : from ≤ line_room
  pub fit : Fit from p
