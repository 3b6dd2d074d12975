-- What a call of the library gives back, and what it leaves of the places that were lent to it.
-- Assumes nothing.
use Rattle.std.specs.Prelude.{◌≡◌, List, ℕ, ℤ, pos, length}
use Rattle.std.proofs.lemmas.List.Edits.{sets}
use Rattle.number.specs.Choice.{when◌then◌else◌, ◌<?◌}

-- how many numbers the longest answer has
abbrev pub room : ℕ
room = 8

-- 0: answered; 1: the list has too little room for any answer, and nothing was written
unfoldable pub returned : List ℕ → ℤ
returned list = when length list <? room then pos 1 else pos 0

-- places that were lent beside the list: changed where there is room for the answer, else as they were
unfoldable pub where_room : List ℕ → List ℕ → List ℕ → List ℕ
where_room list before after = when length list <? room then before else after

-- the list afterwards: its first numbers are xs and the others as they were; all as they were where there is too little room
unfoldable pub written : List ℕ → List ℕ → List ℕ
written xs list = when length list <? room then list else sets list 0 xs

-- a call that answers xs
pub record Called (xs list : List ℕ) (r : ℤ) (after : List ℕ) : Type 0 where
  pub told : r ≡ returned list
  pub numbers : after ≡ written xs list
