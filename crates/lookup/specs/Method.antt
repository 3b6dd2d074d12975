-- Document 01, "Questions": methods by name and kind, and by slot.
-- Assumes nothing.
use Rattle.std.specs.Prelude.{List, [], ◌∷◌, Bool, false, ℕ, ◌+◌, ◌-◌, ◌/◌, ◌%◌, length}
use Rattle.std.proofs.Math.Option.{Option, none, some}
use Rattle.number.specs.Bits.{bit}
use Rattle.number.specs.Choice.{when◌then◌else◌, ◌<?◌, ◌=?◌}
use Rattle.key.specs.Word.{same_word}
use Rattle.reader.specs.Values.{getter_bit, setter_bit, methods_of, Method, method_flags, method_name}
use Rattle.lookup.specs.declared.Kind.{Kind}
use Rattle.lookup.specs.declared.Kind.TheVariants.{Getter, Setter, Plain}
use Rattle.lookup.specs.Chain.{Level, level, root, unresolved, Chain, chain, levels, Sought, nothing, found, undetermined, seek, position}

-- how many methods all the entries of a chain have
unfoldable pub methods_in : {R : Type 0} → List (Level R) → ℕ
methods_in [] = 0
methods_in (level r d ∷ xs) = methods_in xs + length (methods_of d)

-- known with its number, or undetermined with the unresolved ancestor
pub data SlotOf (R : Type 0) : Type 0 where
  known : ℕ → SlotOf R
  unknown : R → SlotOf R

-- Slot = methods of all the owner's ancestors + position. Known only when the chain reaches a parent of 0 through resolved entries.
unfoldable pub slot_of : {R : Type 0} → Chain R → ℕ → SlotOf R
slot_of (chain above root) p = known (methods_in above + p)
slot_of (chain above (unresolved r)) p = unknown r

-- The total of an interface's slots, known exactly when its chain reaches a parent of 0: the number of methods on that chain, which is the slot that a further one would have.
unfoldable pub total_of : {R : Type 0} → Chain R → SlotOf R
total_of c = slot_of c 0

-- The steps from the asked interface up to the owner, whose parents have the chain `above`: 0 for the asked interface itself.
unfoldable pub steps_to : {R : Type 0} → Chain R → Chain R → ℕ
steps_to asked above = length (levels asked) - length (levels above) - 1

-- owner, position (from 0), slot, the steps to the owner and the asked interface's total
pub data FoundMethod (R : Type 0) : Type 0 where
  found_method : R → ℕ → SlotOf R → ℕ → SlotOf R → FoundMethod R

-- the answer, on the asked chain, for the method at position p of the owner, whose parents have the chain `above`
unfoldable pub method_at : {R : Type 0} → Chain R → R → Chain R → ℕ → FoundMethod R
method_at asked owner above p = found_method owner p (slot_of above p) (steps_to asked above) (total_of asked)

-- getter: bit set; setter: bit set; plain: neither of the two highest
unfoldable pub is_kind : Kind → ℕ → Bool
is_kind Getter f = bit getter_bit f =? 1
is_kind Setter f = bit setter_bit f =? 1
is_kind Plain f = f / setter_bit % 4 =? 0

unfoldable pub is_named : {R : Type 0} → List ℕ → Kind → Method R → Bool
is_named w k m = when is_kind k (method_flags m) then same_word (method_name m) w else false

-- the answer for the position that was found, if any
unfoldable pub method_if : {R : Type 0} → Chain R → R → Chain R → Option ℕ → Option (FoundMethod R)
method_if asked owner above none = none
method_if asked owner above (some p) = some (method_at asked owner above p)

-- the entry's own method of that name and kind
unfoldable pub own_method : {R : Type 0} → Chain R → List ℕ → Kind → Level R → Chain R → Option (FoundMethod R)
own_method asked w k (level r d) above = method_if asked r above (position (is_named w k) 0 (methods_of d))

-- method by name and kind, on the asked chain from some entry of it on
unfoldable pub method_from : {R : Type 0} → Chain R → List ℕ → Kind → Chain R → Sought R (FoundMethod R)
method_from asked w k (chain xs end) = seek (own_method asked w k) xs end

-- method by name and kind
unfoldable pub method_named : {R : Type 0} → List ℕ → Kind → Chain R → Sought R (FoundMethod R)
method_named w k c = method_from c w k c

-- the method at slot s, on the asked chain, which is complete, from some entry of it on: found, or none at or past the total
unfoldable pub at_slot : {R : Type 0} → Chain R → ℕ → List (Level R) → Sought R (FoundMethod R)
at_slot asked s [] = nothing
at_slot asked s (level r d ∷ xs) =
    when s <? methods_in xs then at_slot asked s xs else
    when s <? methods_in xs + length (methods_of d) then found (method_at asked r (chain xs root) (s - methods_in xs)) else
    nothing

-- the same; undetermined, with the unresolved entry, on an incomplete chain
unfoldable pub slot_from : {R : Type 0} → Chain R → ℕ → Chain R → Sought R (FoundMethod R)
slot_from asked s (chain xs root) = at_slot asked s xs
slot_from asked s (chain xs (unresolved r)) = undetermined r

-- method by slot
unfoldable pub method_in_slot : {R : Type 0} → ℕ → Chain R → Sought R (FoundMethod R)
method_in_slot s c = slot_from c s c
