-- Files that were asked for are held.
-- Assumes nothing.
use mathlib.Core.Path.{◌≡◌, subst}
use mathlib.Core.Bool.{Bool, true}
use mathlib.Core.List.{List}
use Prim.Native.Nat.{ℕ}
use native.Mathlib.Omega.{arith}
use Rattle.kept.specs.declared.Kept.{Kept}
use Rattle.kept.specs.Files.{is_found}
use Rattle.tasks.specs.Tasks.{argument}
use Rattle.store.specs.declared.Loaded.TheVariants as loaded
use Rattle.store.specs.declared.Asked.{Asked}
use Rattle.store.specs.Loading.{Answers, Loads}
use Rattle.held.specs.declared.Wanting.{Wanting}
use Rattle.held.specs.declared.Wanting.TheVariants.{Nothing, Input, First, Second}
use Rattle.held.specs.Held.{Held, WhereHad}

module _ (b : Bool) (name : List ℕ) (kept : Kept) (rows store : List ℕ) (r : Asked) (table text : List ℕ) (h : Loads b name kept rows store r table text) where
  found : r.file ≡ loaded.Kept → is_found name r.kept table text ≡ true
  found e = (subst (Answers b name kept rows store r.kept table text) e h.file).1.found

  pub had_found : (w : Wanting) → WhereHad (r.file ≡ loaded.Kept) w → WhereHad (is_found name r.kept table text ≡ true) w
  had_found Nothing e = found e
  had_found Input e = tt
  had_found (First x) e = tt
  had_found (Second x) e = tt

-- where one file is asked for
pub first_Held : (n : ℕ) (ws : List (List ℕ)) (kept : Kept) (table text : List ℕ) → n ≡ 1 → (w : Wanting) → WhereHad (is_found (argument 1 ws) kept table text ≡ true) w → WhereHad (Held n ws kept table text) w
first_Held n ws kept table text e Nothing f = record { first = λ _. f; second = λ k. absurd (omega arith) }
first_Held n ws kept table text e Input f = tt
first_Held n ws kept table text e (First x) f = tt
first_Held n ws kept table text e (Second x) f = tt

-- the first file is held while the second is loaded
pub second_Held : (b : Bool) (ws : List (List ℕ)) (kept : Kept) (rows store : List ℕ) (r : Asked) (table text : List ℕ) (n : ℕ)
    → is_found (argument 1 ws) kept rows store ≡ true → Loads b (argument 2 ws) kept rows store r table text
    → (w : Wanting) → WhereHad (r.file ≡ loaded.Kept) w → WhereHad (Held n ws r.kept table text) w
second_Held b ws kept rows store r table text n f h Nothing e = record { first = λ _. h.keeps.found (argument 1 ws) f; second = λ _. found b (argument 2 ws) kept rows store r table text h e }
second_Held b ws kept rows store r table text n f h Input e = tt
second_Held b ws kept rows store r table text n f h (First x) e = tt
second_Held b ws kept rows store r table text n f h (Second x) e = tt

-- no file is asked for
pub none_Held : (ws : List (List ℕ)) (kept : Kept) (rows store : List ℕ) → Held 0 ws kept rows store
none_Held ws kept rows store = record { first = λ k. absurd (omega arith); second = λ k. absurd (omega arith) }
