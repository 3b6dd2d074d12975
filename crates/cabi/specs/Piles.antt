-- What adding a file to a pile answers, as numbers.
-- Assumes nothing.
use Rattle.std.specs.Prelude.{List, [], ◌∷◌, ◌++◌, ℕ}
use Rattle.pile.specs.declared.PileRefusal.{PileRefusal}
use Rattle.pile.specs.declared.Added.{Added}
use Rattle.pile.specs.declared.Added.TheVariants.{Grown, Refused, Full}
use Rattle.outcomes.specs.Numbers.{link_refusal_numbers}

-- a link's refusal, and its step
unfoldable pub pile_refusal_numbers : PileRefusal → List ℕ
pile_refusal_numbers x = link_refusal_numbers x.why ++ (x.step ∷ [])

-- 0 and the pile; 1 for a file too many
unfoldable pub pile_numbers : Added → List ℕ
pile_numbers (Grown p) = 0 ∷ p.files ∷ p.length ∷ []
pile_numbers (Refused x) = pile_refusal_numbers x
pile_numbers Full = 1 ∷ []
