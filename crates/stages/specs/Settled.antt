-- Pairs of descriptors that were compared: a row of the first file and its mate tell two pool pointers.
-- Assumes nothing.
use Rattle.std.specs.Prelude.{◌≡◌, true, List, ℕ, ◌-◌, ◌<◌, get_or}
use Rattle.same.specs.Same.{same_descriptor}
use Rattle.same.specs.Match.{row_of, HasDescriptor, Compares}

-- row r has the descriptor pointer a, and its mate b
pub record Pointed (mates own : List ℕ) (a b r : ℕ) : Type 0 where
  pub mated : get_or mates r 0 ≡ 0 → ⊥
  pub one : get_or own r 0 ≡ a
  pub two : get_or own (get_or mates r 0 - 1) 0 ≡ b

-- a row before i does
pub record Earlier (mates own : List ℕ) (a b i : ℕ) : Type 0 where
  pub row : ℕ
  pub before : row < i
  pub pair : Pointed mates own a b row

-- where rows before i and their mates both have descriptors, these were compared, and mean the same
pub record Settled (pool pool2 first mates own : List ℕ) (n i : ℕ) : Type 0 where
  pub each : (r a b : ℕ) → r < i → Pointed mates own a b r → (a ≡ 0 → ⊥) → (b ≡ 0 → ⊥)
      → Compares (HasDescriptor pool 0) (HasDescriptor pool2 n) (same_descriptor (row_of first 0) (row_of first n)) (a - 1) (b - 1) true
