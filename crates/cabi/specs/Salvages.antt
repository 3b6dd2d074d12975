-- What a call that salvages a file answers, and leaves in what is lent.
-- Assumes nothing.
use Rattle.reading.specs.declared.Refusal.{Refusal}
use Rattle.salvage.specs.declared.Remains.{Remains}
use Rattle.std.specs.Prelude.{◌≡◌, List, [], ◌∷◌, ℕ, ℤ, Err, Ok, Result}
use Rattle.numbers.specs.Call.{Called, where_room}
use Rattle.numbers.specs.Numbers.{refusal_numbers}
use Rattle.joining.specs.Outcome.{after}
use Rattle.mend.specs.Left.{index_of, number_of, place_of, read_left}
use Rattle.salvage.specs.Salvage.{reports_in, salvaged_as, listed, Lent, outcome_of}

-- the length of what was written, and how many entries were changed
unfoldable pub salvaged_numbers : Result Remains Refusal → List ℕ
salvaged_numbers (Ok r) = 0 ∷ r.length ∷ r.changed ∷ []
salvaged_numbers (Err why) = refusal_numbers why

pub record SalvageCalled (s list : List ℕ) (before : Lent) (r : ℤ) (list_after : List ℕ) (after_it : Lent) : Type 0 where
  pub answer : Called (salvaged_numbers (salvaged_as (outcome_of s before) (reports_in (read_left s)))) list r list_after
  pub out : after_it.out ≡ where_room list before.out (after (outcome_of s before) before.out)
  pub indexes : after_it.indexes ≡ where_room list before.indexes (listed (outcome_of s before) index_of (reports_in (read_left s)) before.indexes)
  pub numbers : after_it.numbers ≡ where_room list before.numbers (listed (outcome_of s before) number_of (reports_in (read_left s)) before.numbers)
  pub places : after_it.places ≡ where_room list before.places (listed (outcome_of s before) place_of (reports_in (read_left s)) before.places)
