-- What a writer does to the part of the output that it is lent.
-- Assumes nothing.
use Rattle.std.specs.Prelude.{◌≡◌, List, ℕ, ◌≤◌, length}
use Rattle.std.proofs.lemmas.List.Edits.{sets}

-- P x e says that x is shown and ends before e: one is shown, and n bytes have room for it
pub record Room {X : Type 0} (P : X → ℕ → Type 0) (size : X → ℕ) (n : ℕ) : Type 0 where
  pub value : X
  pub end : ℕ
  pub shown : P value end
  pub room : size value ≤ n

-- the bytes of each that is shown stand at the front, as many as the answer says; all after them is as before
pub record Wrote {X : Type 0} (P : X → ℕ → Type 0) (bytes : X → List ℕ) (before : List ℕ) (r : ℕ) (after : List ℕ) : Type 0 where
  pub each : (x : X) (e : ℕ) → P x e → (r ≡ length (bytes x)) × (after ≡ sets before 0 (bytes x))
