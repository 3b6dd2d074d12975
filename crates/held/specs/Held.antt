-- The files that a line names, in the store.
-- Assumes nothing.
use Rattle.std.specs.Prelude.{◌≡◌, true, List, ℕ, ◌≤◌}
use Rattle.kept.specs.declared.Kept.{Kept}
use Rattle.kept.specs.Table.{Tidy}
use Rattle.kept.specs.Files.{is_found}
use Rattle.tasks.specs.Tasks.{argument}
use Rattle.held.specs.declared.Wanting.{Wanting}
use Rattle.held.specs.declared.Wanting.TheVariants.{Nothing, Input, First, Second}
use Rattle.held.specs.declared.Fetched.{Fetched}

-- the first n files of the command with the words ws are kept
pub record Held (n : ℕ) (ws : List (List ℕ)) (kept : Kept) (rows store : List ℕ) : Type 0 where
  pub first : 1 ≤ n → is_found (argument 1 ws) kept rows store ≡ true
  pub second : 2 ≤ n → is_found (argument 2 ws) kept rows store ≡ true

-- P holds where nothing is wanting
abbrev pub WhereHad : Type 0 → Wanting → Type 0
WhereHad P Nothing = P
WhereHad P Input = Unit {0}
WhereHad P (First e) = Unit {0}
WhereHad P (Second e) = Unit {0}

-- the first n files of the command were asked for
pub record FetchesAll (n : ℕ) (ws : List (List ℕ)) (r : Fetched) (table text : List ℕ) : Type 0 where
  pub tidy : Tidy table r.kept
  pub held : WhereHad (Held n ws r.kept table text) r.wanting
