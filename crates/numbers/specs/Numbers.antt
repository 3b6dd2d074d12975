-- Verdicts and the answers to questions as numbers.
-- Assumes nothing.
use Rattle.std.specs.Prelude.{List, [], ◌∷◌, ◌++◌, ℕ, Err, None, Ok, Option, Result, Some}
use Rattle.reading.specs.declared.Refusal.{Refusal}
use Rattle.signed.specs.Bits.{bits_of}
use Rattle.lookup.specs.declared.Slot.{Slot}
use Rattle.lookup.specs.declared.Slot.TheVariants as slot
use Rattle.lookup.specs.declared.FoundMethod.{FoundMethod}
use Rattle.lookup.specs.declared.Value.{Value}
use Rattle.lookup.specs.declared.Value.TheVariants.{I16, I32, U16, U32}
use Rattle.halving.specs.declared.Looked.{Looked}
use Rattle.halving.specs.declared.Looked.TheVariants as looked
use Rattle.lookup.specs.declared.Search.{Search}
use Rattle.lookup.specs.declared.Search.TheVariants as search

-- document 01's number and place; 0, which is no refusal's number, and n for an accepted file
unfoldable pub verdict_numbers : Result ℕ Refusal → List ℕ
verdict_numbers (Ok n) = 0 ∷ n ∷ []
verdict_numbers (Err why) = why.no ∷ why.place ∷ []

-- document 01's number and place
unfoldable pub refusal_numbers : Refusal → List ℕ
refusal_numbers why = 3 ∷ why.no ∷ why.place ∷ []

unfoldable pub interface_numbers : Result (Option ℕ) Refusal → List ℕ
interface_numbers (Ok (Some i)) = 0 ∷ i ∷ []
interface_numbers (Ok None) = 1 ∷ []
interface_numbers (Err why) = refusal_numbers why

-- with the number of entries looked at; a refusal has none
unfoldable pub counted_numbers : Result Looked Refusal → List ℕ
counted_numbers (Ok (looked.Found i k)) = 0 ∷ i ∷ k ∷ []
counted_numbers (Ok (looked.None k)) = 1 ∷ k ∷ []
counted_numbers (Err why) = refusal_numbers why

-- a slot or a total: known, with its number; undetermined, with the unresolved ancestor's index
unfoldable pub slot_numbers : Slot → List ℕ
slot_numbers (slot.Known s) = 0 ∷ s ∷ []
slot_numbers (slot.Undetermined r) = 1 ∷ r ∷ []

-- owner, position and slot, the steps to the owner, the asked interface's total
unfoldable pub found_numbers : FoundMethod → List ℕ
found_numbers m = 0 ∷ m.owner ∷ m.position ∷ (slot_numbers m.slot ++ (m.distance ∷ slot_numbers m.total))

unfoldable pub method_numbers : Result (Search FoundMethod) Refusal → List ℕ
method_numbers (Ok (search.Found m)) = found_numbers m
method_numbers (Ok search.None) = 1 ∷ []
method_numbers (Ok (search.Undetermined r)) = 2 ∷ r ∷ []
method_numbers (Err why) = refusal_numbers why

-- type byte and bits
unfoldable pub value_numbers : Value → List ℕ
value_numbers (I16 z) = 0 ∷ 1 ∷ bits_of 16 z ∷ []
value_numbers (I32 z) = 0 ∷ 2 ∷ bits_of 32 z ∷ []
value_numbers (U16 n) = 0 ∷ 5 ∷ n ∷ []
value_numbers (U32 n) = 0 ∷ 6 ∷ n ∷ []

unfoldable pub constant_numbers : Result (Search Value) Refusal → List ℕ
constant_numbers (Ok (search.Found v)) = value_numbers v
constant_numbers (Ok search.None) = 1 ∷ []
constant_numbers (Ok (search.Undetermined r)) = 2 ∷ r ∷ []
constant_numbers (Err why) = refusal_numbers why
