-- A list by the index of its elements.
-- Assumes nothing.
use Rattle.std.specs.Prelude.{List, [], ◌∷◌, ℕ, zero, suc}

-- f 0, f 1, .. up to f (c - 1)
unfoldable pub span : {X : Type 0} → (ℕ → X) → ℕ → List X
span f zero = []
span f (suc c) = f 0 ∷ span (λ q. f (suc q)) c
