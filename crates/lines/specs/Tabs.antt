-- A text that stands within one line.
-- Assumes nothing.
use Rattle.std.specs.Prelude.{List, map, ℕ}
use Rattle.number.specs.Choice.{when◌then◌else◌, ◌=?◌}

-- a newline as a tab
unfoldable pub tab : ℕ → ℕ
tab b = when b =? 10 then 9 else b

-- each newline of a text so
unfoldable pub tabbed : List ℕ → List ℕ
tabbed text = map tab text

-- a tab as a newline, and each of a text so: how a reader of a batch has the text back, if it has no tab of its own
unfoldable pub untab : ℕ → ℕ
untab b = when b =? 9 then 10 else b

unfoldable pub untabbed : List ℕ → List ℕ
untabbed text = map untab text
