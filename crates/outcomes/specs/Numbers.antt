-- The answers of normalising, adopting and linking as numbers.
-- Assumes nothing.
use Rattle.reading.specs.declared.Refusal.{Refusal}
use Rattle.std.specs.Prelude.{List, [], ◌∷◌, ℕ, Err, Ok, Result}
use Rattle.link.specs.declared.LinkRefusal.{LinkRefusal}
use Rattle.numbers.specs.Numbers.{refusal_numbers}
use Rattle.outcomes.specs.Lines.{which_number}

unfoldable pub normal_numbers : Result ℕ Refusal → List ℕ
normal_numbers (Ok n) = 0 ∷ n ∷ []
normal_numbers (Err why) = refusal_numbers why

unfoldable pub link_refusal_numbers : LinkRefusal → List ℕ
link_refusal_numbers x = 3 ∷ which_number x.which ∷ x.why.no ∷ x.why.place ∷ []

unfoldable pub link_numbers : Result ℕ LinkRefusal → List ℕ
link_numbers (Ok n) = 0 ∷ n ∷ []
link_numbers (Err x) = link_refusal_numbers x
