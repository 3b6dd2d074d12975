-- What a link of two files' entries gives.
-- Assumes nothing.
use Rattle.std.specs.Prelude.{◌≡◌, List, ℕ, length, Result}
use Rattle.reading.specs.declared.Refusal.{Refusal}
use Rattle.rows.specs.Files.{Pair}
use Rattle.stages.specs.Stages.{link_pair}
use Rattle.joining.specs.Outcome.{Outcome, refusal, encoded, in_room, after, normalised_as}

-- its normal form in a buffer of `room` bytes
unfoldable pub union_in : ℕ → Pair → Outcome Refusal
union_in room x = in_room refusal room (encoded refusal (link_pair x))

-- this is the answer, and what the buffer `before` becomes
pub record Joins (P : Pair → Type 0) (before : List ℕ) (r : Result ℕ Refusal) (left : List ℕ) : Type 0 where
  pub answer : (x : Pair) → P x → r ≡ normalised_as (union_in (length before) x)
  pub buffer : (x : Pair) → P x → left ≡ after (union_in (length before) x) before
