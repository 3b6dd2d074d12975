-- What rows are joined to: m tells for each row of the first file the row of the second that has its key, and 1; 0 where none has.
-- Assumes nothing.
use Rattle.std.specs.Prelude.{Bool, false, ℕ, ◌+◌, ◌-◌}
use Rattle.number.specs.Choice.{when◌then◌else◌, ◌≤?◌, ◌=?◌, ◌≠?◌}
use Rattle.number.specs.Scan.{some}

-- the row that has what g tells, and 1, where g tells 0 of a row that has nothing: the row itself, or its mate; 0 where neither has
unfoldable pub holder : (ℕ → ℕ) → (ℕ → ℕ) → ℕ → ℕ → ℕ
holder g m n i =
    when g i ≠? 0 then i + 1 else
    when n ≤? i then 0 else
    when m i =? 0 then 0 else
    when g (m i - 1) ≠? 0 then m i else
    0

-- what h tells of the row i holds, 0 where there is none
unfoldable pub held : (ℕ → ℕ) → ℕ → ℕ
held h i = when i =? 0 then 0 else h (i - 1)

-- the number, an IID or a pointer, that a row and its mate have together
unfoldable pub joined : (ℕ → ℕ) → (ℕ → ℕ) → ℕ → ℕ → ℕ
joined g m n i = held g (holder g m n i)

-- 21, of row i of the first file: it and its mate have two nonzero numbers
unfoldable pub two_numbers : (ℕ → ℕ) → (ℕ → ℕ) → ℕ → Bool
two_numbers g m i =
    when m i =? 0 then false else
    when g i =? 0 then false else
    when g (m i - 1) =? 0 then false else
    g i ≠? g (m i - 1)

-- row r is the first of its key, by `first`, another than i, and has the number of i
unfoldable pub shares_row : (ℕ → ℕ) → (ℕ → ℕ) → ℕ → ℕ → Bool
shares_row first g i r =
    when first r ≠? r then false else
    when r =? i then false else
    g r =? g i

-- 22, of row i of the first file, where g tells what rows and mates have together
unfoldable pub shared_number : (ℕ → ℕ) → (ℕ → ℕ) → ℕ → ℕ → Bool
shared_number first g N i = when g i =? 0 then false else some (shares_row first g i) N
