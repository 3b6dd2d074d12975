-- The lines of the lookups' answers, and of mistakes in their words, as ASCII codes, each with its newline.
-- Assumes nothing.
use Rattle.reading.specs.declared.Refusal.{Refusal}
use Rattle.std.specs.Prelude.{List, [], ◌∷◌, ◌++◌, ℕ, Err, None, Ok, Option, Result, Some}
use Rattle.decimal.specs.Digits.{digits_of}
use Rattle.text.specs.Line.{space, newline}
use Rattle.said.specs.Texts.{found, nothing, undetermined, numbered, none_line, refused_line, error}
use Rattle.lookup.specs.declared.Slot.{Slot}
use Rattle.lookup.specs.declared.Slot.TheVariants as slot
use Rattle.lookup.specs.declared.FoundMethod.{FoundMethod}
use Rattle.lookup.specs.declared.Value.{Value}
use Rattle.lookup.specs.declared.Value.TheVariants.{I16, I32, U16, U32}
use Rattle.halving.specs.declared.Looked.{Looked}
use Rattle.halving.specs.declared.Looked.TheVariants as halved
use Rattle.lookup.specs.declared.Search.{Search}
use Rattle.lookup.specs.declared.Search.TheVariants as search
use Rattle.printed.specs.Listing.{mark, slot_text, value_text}

-- ---- words of answers

-- ` looked `, with its spaces
abbrev pub looked : List ℕ
looked = 32 ∷ 108 ∷ 111 ∷ 111 ∷ 107 ∷ 101 ∷ 100 ∷ 32 ∷ []

-- ` slot `, with its spaces
abbrev pub in_slot : List ℕ
in_slot = 32 ∷ 115 ∷ 108 ∷ 111 ∷ 116 ∷ 32 ∷ []

-- ` distance `, with its spaces
abbrev pub at_distance : List ℕ
at_distance = 32 ∷ 100 ∷ 105 ∷ 115 ∷ 116 ∷ 97 ∷ 110 ∷ 99 ∷ 101 ∷ 32 ∷ []

-- ` total `, with its spaces
abbrev pub in_total : List ℕ
in_total = 32 ∷ 116 ∷ 111 ∷ 116 ∷ 97 ∷ 108 ∷ 32 ∷ []

-- ---- answers

-- `found INDEX`, `none` or `refused NO PLACE`
unfoldable pub interface_text : Result (Option ℕ) Refusal → List ℕ
interface_text (Ok (Some i)) = numbered found i
interface_text (Ok None) = none_line
interface_text (Err why) = refused_line why

-- `found INDEX looked K`, `none looked K` or `refused NO PLACE`
unfoldable pub counted_text : Result Looked Refusal → List ℕ
counted_text (Ok (halved.Found i k)) = ((found ++ digits_of i) ++ (looked ++ digits_of k)) ++ newline
counted_text (Ok (halved.None k)) = numbered (nothing ++ looked) k
counted_text (Err why) = refused_line why

-- ` slot N` or ` slot ? ANCESTOR`
unfoldable pub slot_part : Slot → List ℕ
slot_part (slot.Known n) = in_slot ++ digits_of n
slot_part (slot.Undetermined r) = (in_slot ++ (mark ++ space)) ++ digits_of r

-- ` total T` or ` total ?`: the ancestor stands with the slot
unfoldable pub total_part : Slot → List ℕ
total_part t = in_total ++ slot_text t

-- `found OWNER POSITION`, the slot, ` distance D` and the total
unfoldable pub found_text : FoundMethod → List ℕ
found_text m =
    ((((found ++ digits_of m.owner) ++ (space ++ digits_of m.position)) ++ slot_part m.slot)
    ++ (at_distance ++ digits_of m.distance))
    ++ total_part m.total
    ++ newline

-- that, `none`, `undetermined INDEX` or `refused NO PLACE`
unfoldable pub method_text : Result (Search FoundMethod) Refusal → List ℕ
method_text (Ok (search.Found m)) = found_text m
method_text (Ok search.None) = none_line
method_text (Ok (search.Undetermined i)) = numbered undetermined i
method_text (Err why) = refused_line why

-- `i16 `, `i32 `, `u16 ` or `u32 `, with its space
unfoldable pub kind_text : Value → List ℕ
kind_text (I16 z) = 105 ∷ 49 ∷ 54 ∷ 32 ∷ []
kind_text (I32 z) = 105 ∷ 51 ∷ 50 ∷ 32 ∷ []
kind_text (U16 n) = 117 ∷ 49 ∷ 54 ∷ 32 ∷ []
kind_text (U32 n) = 117 ∷ 51 ∷ 50 ∷ 32 ∷ []

-- `found KIND VALUE`, `none`, `undetermined INDEX` or `refused NO PLACE`
unfoldable pub constant_text : Result (Search Value) Refusal → List ℕ
constant_text (Ok (search.Found v)) = ((found ++ kind_text v) ++ value_text v) ++ newline
constant_text (Ok search.None) = none_line
constant_text (Ok (search.Undetermined i)) = numbered undetermined i
constant_text (Err why) = refused_line why

-- ---- mistakes

-- `error the IID is not hexadecimal digits in pairs`
abbrev pub iid_mistake : List ℕ
iid_mistake = error ++ (116 ∷ 104 ∷ 101 ∷ 32 ∷ 73 ∷ 73 ∷ 68 ∷ 32 ∷ 105 ∷ 115 ∷ 32 ∷ 110 ∷ 111 ∷ 116 ∷ 32 ∷ 104 ∷ 101 ∷ 120 ∷ 97 ∷ 100 ∷ 101 ∷ 99 ∷ 105 ∷ 109 ∷ 97 ∷ 108 ∷ 32 ∷ 100 ∷ 105 ∷ 103 ∷ 105 ∷ 116 ∷ 115 ∷ 32 ∷ 105 ∷ 110 ∷ 32 ∷ 112 ∷ 97 ∷ 105 ∷ 114 ∷ 115 ∷ newline)

-- `error the kind is not getter, setter or plain`
abbrev pub kind_mistake : List ℕ
kind_mistake = error ++ (116 ∷ 104 ∷ 101 ∷ 32 ∷ 107 ∷ 105 ∷ 110 ∷ 100 ∷ 32 ∷ 105 ∷ 115 ∷ 32 ∷ 110 ∷ 111 ∷ 116 ∷ 32 ∷ 103 ∷ 101 ∷ 116 ∷ 116 ∷ 101 ∷ 114 ∷ 44 ∷ 32 ∷ 115 ∷ 101 ∷ 116 ∷ 116 ∷ 101 ∷ 114 ∷ 32 ∷ 111 ∷ 114 ∷ 32 ∷ 112 ∷ 108 ∷ 97 ∷ 105 ∷ 110 ∷ newline)
