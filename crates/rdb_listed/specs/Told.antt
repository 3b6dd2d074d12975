-- What a line of the listing says is so: its path leads there. And every path that leads somewhere has its line.
-- Assumes nothing.
use Rattle.std.specs.Prelude.{◌≡◌, List, [], ◌∷◌, ◌⊎◌, ℕ, get_or, Ok, Some}
use Rattle.std.proofs.Math.Option.{some}
use Rattle.rdb_path.specs.Path.{entity_at, constant_at}
use Rattle.rdb.specs.Questions.{constant_found}
use Rattle.rdb_list.specs.Listed.{Line, entity_line, constant_line, value_in, list_of}

unfoldable pub Told : List ℕ → Line → Type 0
Told s (entity_line ws k o) = (entity_at s ws ≡ some o) × (get_or s o 0 ≡ k)
Told s (constant_line ws v) = (q : ℕ) × ((constant_at s ws ≡ some q) × (value_in s q ≡ v))

-- of each line
unfoldable pub Every : (Line → Type 0) → List Line → Type 0
Every P [] = Unit {0}
Every P (x ∷ xs) = P x × Every P xs

-- x stands among them
unfoldable pub In : Line → List Line → Type 0
In x [] = ⊥
In x (y ∷ ys) = (x ≡ y) ⊎ In x ys

-- every path that leads somewhere is listed
pub record Listed (s : List ℕ) : Type 0 where
  pub entity : (ws : List (List ℕ)) (o : ℕ) → entity_at s ws ≡ some o → In (entity_line ws (get_or s o 0) o) (list_of s)
  pub constant : (ws : List (List ℕ)) (q : ℕ) → constant_at s ws ≡ some q → In (constant_line ws (value_in s q)) (list_of s)
  -- with the value that the question for it is answered with
  pub answered : (ws : List (List ℕ)) (q : ℕ) → constant_at s ws ≡ some q → constant_found s (constant_at s ws) ≡ Ok (Some (value_in s q))
