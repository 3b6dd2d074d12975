-- Document 01, "Questions": what each answers, for every file and every question. The file's refusal comes first, then 20.
-- Assumes nothing.
use Rattle.std.specs.Prelude.{List, Bool, true, false, not, ℕ, ◌+◌, length, Err, None, Ok, Option as Maybe, Result, Some}
use Rattle.std.proofs.Math.Option.{Option, none, some}
use Rattle.number.specs.Choice.{when◌then◌else◌, ◌<?◌, ◌=?◌, ◌≠?◌}
use Rattle.number.specs.Number.{be}
use Rattle.reading.specs.Got.{Got, got, bad}
use Rattle.reading.specs.declared.Refusal.{Refusal}
use Rattle.key.specs.Key.{key, same_key}
use Rattle.reader.specs.Values.{Typelib, entries_in, Entry, entry_key, entry_iid, Constant}
use Rattle.reader.specs.Rules.{is_identifier}
use Rattle.halving.specs.declared.Looked.{Looked}
use Rattle.halving.specs.declared.Looked.TheVariants as looked
use Rattle.halving.specs.Halving.{iid_looked}
use Rattle.lookup.specs.declared.Kind.{Kind}
use Rattle.lookup.specs.declared.Slot.{Slot}
use Rattle.lookup.specs.declared.Slot.TheVariants as slot
use Rattle.lookup.specs.declared.FoundMethod.{FoundMethod as MethodFound}
use Rattle.lookup.specs.declared.Search.{Search}
use Rattle.lookup.specs.declared.Search.TheVariants as search
use Rattle.lookup.specs.declared.Value.{Value}
use Rattle.lookup.specs.Chain.{chain_of, Sought, found, nothing, undetermined, position}
use Rattle.lookup.specs.Method.{SlotOf, known, unknown, FoundMethod, found_method, method_named, method_in_slot}
use Rattle.lookup.specs.Constant.{constant_named, value_of}

unfoldable pub refusal : ℕ → ℕ → Refusal
refusal n q = record { no = n; place = q }

-- 20, malformed question, at 0
unfoldable pub malformed : Refusal
malformed = refusal 20 0

-- a question's IID: 16 bytes, not zero
unfoldable pub bad_iid : List ℕ → Bool
bad_iid w = when length w ≠? 16 then true else be 16 w 0 =? 0

-- a question's name
unfoldable pub bad_name : List ℕ → Bool
bad_name w = not (is_identifier w)

-- a question's namespace; an empty one asks for the default
unfoldable pub bad_space : List ℕ → Bool
bad_space v = when length v =? 0 then false else bad_name v

-- a question's index, of n entries
unfoldable pub bad_index : ℕ → ℕ → Bool
bad_index n i = when i =? 0 then true else n <? i

-- ---- interfaces

unfoldable pub has_iid : ℕ → Entry ℕ → Bool
has_iid v x = entry_iid x =? v

unfoldable pub has_key : List ℕ → List ℕ → Entry ℕ → Bool
has_key v w x = same_key (entry_key x) (key v w)

-- the index, counted from 1, of the entry that passes, or none
unfoldable pub interface_where : (Entry ℕ → Bool) → List (Entry ℕ) → Option ℕ
interface_where p es = position p 1 es

unfoldable pub interface_as : Option ℕ → Result (Maybe ℕ) Refusal
interface_as none = Ok None
interface_as (some i) = Ok (Some i)

-- interface by IID, among the entries of an accepted file
unfoldable pub iid_answer : List (Entry ℕ) → List ℕ → Result (Maybe ℕ) Refusal
iid_answer es w =
    when bad_iid w then Err malformed else
    interface_as (interface_where (has_iid (be 16 w 0)) es)

unfoldable pub ask_iid : Got Typelib → List ℕ → Result (Maybe ℕ) Refusal
ask_iid (bad n q) w = Err (refusal n q)
ask_iid (got t e) w = iid_answer (entries_in t) w

-- request #104: the same by halving the directory, with the number of entries looked at
unfoldable pub looks_answer : List (Entry ℕ) → List ℕ → Result Looked Refusal
looks_answer es w =
    when bad_iid w then Err malformed else
    Ok (iid_looked es (be 16 w 0))

unfoldable pub ask_looks : Got Typelib → List ℕ → Result Looked Refusal
ask_looks (bad n q) w = Err (refusal n q)
ask_looks (got t e) w = looks_answer (entries_in t) w

-- the answer alone, and the number alone, 0 for a refusal
unfoldable pub uncounted : Result Looked Refusal → Result (Maybe ℕ) Refusal
uncounted (Ok (looked.Found i k)) = Ok (Some i)
uncounted (Ok (looked.None k)) = Ok None
uncounted (Err x) = Err x

unfoldable pub looks_of : Result Looked Refusal → ℕ
looks_of (Ok (looked.Found i k)) = k
looks_of (Ok (looked.None k)) = k
looks_of (Err x) = 0

-- interface by key
unfoldable pub key_answer : List (Entry ℕ) → List ℕ → List ℕ → Result (Maybe ℕ) Refusal
key_answer es v w =
    when bad_space v then Err malformed else
    when bad_name w then Err malformed else
    interface_as (interface_where (has_key v w) es)

unfoldable pub ask_key : Got Typelib → List ℕ → List ℕ → Result (Maybe ℕ) Refusal
ask_key (bad n q) v w = Err (refusal n q)
ask_key (got t e) v w = key_answer (entries_in t) v w

-- ---- methods

unfoldable pub slot_as : SlotOf ℕ → Slot
slot_as (known s) = slot.Known s
slot_as (unknown r) = slot.Undetermined r

-- the number of a slot that is known, else 0
unfoldable pub slot_number : Slot → ℕ
slot_number (slot.Known s) = s
slot_number (slot.Undetermined r) = 0

-- the slot of the method p positions on
unfoldable pub moved_by : ℕ → Slot → Slot
moved_by p (slot.Known s) = slot.Known (s + p)
moved_by p (slot.Undetermined r) = slot.Undetermined r

unfoldable pub sought_method : Sought ℕ (FoundMethod ℕ) → Search MethodFound
sought_method (found (found_method o p s n t)) = search.Found (record { owner = o; position = p; slot = slot_as s; distance = n; total = slot_as t })
sought_method nothing = search.None
sought_method (undetermined r) = search.Undetermined r

-- method by index, name and kind
unfoldable pub method_answer : List (Entry ℕ) → ℕ → List ℕ → Kind → Result (Search MethodFound) Refusal
method_answer es i w k =
    when bad_index (length es) i then Err malformed else
    when bad_name w then Err malformed else
    Ok (sought_method (method_named w k (chain_of es i)))

unfoldable pub ask_method : Got Typelib → ℕ → List ℕ → Kind → Result (Search MethodFound) Refusal
ask_method (bad n q) i w k = Err (refusal n q)
ask_method (got t e) i w k = method_answer (entries_in t) i w k

-- method by index and slot
unfoldable pub slotted_answer : List (Entry ℕ) → ℕ → ℕ → Result (Search MethodFound) Refusal
slotted_answer es i s =
    when bad_index (length es) i then Err malformed else
    Ok (sought_method (method_in_slot s (chain_of es i)))

unfoldable pub ask_slot : Got Typelib → ℕ → ℕ → Result (Search MethodFound) Refusal
ask_slot (bad n q) i s = Err (refusal n q)
ask_slot (got t e) i s = slotted_answer (entries_in t) i s

-- ---- constants

unfoldable pub sought_constant : Sought ℕ Constant → Search Value
sought_constant (found c) = search.Found (value_of c)
sought_constant nothing = search.None
sought_constant (undetermined r) = search.Undetermined r

-- constant by index and name
unfoldable pub constant_answer : List (Entry ℕ) → ℕ → List ℕ → Result (Search Value) Refusal
constant_answer es i w =
    when bad_index (length es) i then Err malformed else
    when bad_name w then Err malformed else
    Ok (sought_constant (constant_named w (chain_of es i)))

unfoldable pub ask_constant : Got Typelib → ℕ → List ℕ → Result (Search Value) Refusal
ask_constant (bad n q) i w = Err (refusal n q)
ask_constant (got t e) i w = constant_answer (entries_in t) i w
