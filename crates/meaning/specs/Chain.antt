-- Parent chains in terms of references.
-- Assumes nothing.
use Rattle.std.proofs.Math.Option.{Option, none, some}
use Rattle.std.specs.Prelude.{ℕ, zero, suc}
use Rattle.reader.specs.Values.{parent_of, Entry, entry}

-- the parent of an entry: none of an unresolved one
unfoldable pub parent_ref : {R : Type 0} → Entry R → Option R
parent_ref (entry k i none) = none
parent_ref (entry k i (some d)) = parent_of d

-- where `up` gives what stands above each, the chain from here ends within n steps
abbrev pub EndsWithin : {R : Type 0} → ℕ → (R → Option R) → Option R → Type 0
EndsWithin zero up none = Unit {0}
EndsWithin zero up (some r) = ⊥
EndsWithin (suc n) up none = Unit {0}
EndsWithin (suc n) up (some r) = EndsWithin n up (up r)
