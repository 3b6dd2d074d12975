-- Methods asked for by the number of their kind: 0 getter, 1 setter, 2 plain. A question with another kind is malformed.
-- Assumes nothing.
use Rattle.std.specs.Prelude.{List, ℕ, Err, Result}
use Rattle.number.specs.Choice.{when◌then◌else◌, ◌=?◌}
use Rattle.reading.specs.Got.{Got, got, bad}
use Rattle.reader.specs.Values.{Typelib, entries_in, Entry}
use Rattle.lookup.specs.declared.Kind.TheVariants.{Getter, Setter, Plain}
use Rattle.reading.specs.declared.Refusal.{Refusal}
use Rattle.lookup.specs.declared.FoundMethod.{FoundMethod}
use Rattle.lookup.specs.declared.Search.{Search}
use Rattle.lookup.specs.Question.{refusal, malformed, method_answer}

-- among the entries of an accepted file
unfoldable pub kind_answer : List (Entry ℕ) → ℕ → List ℕ → ℕ → Result (Search FoundMethod) Refusal
kind_answer es i w k =
    when k =? 0 then method_answer es i w Getter else
    when k =? 1 then method_answer es i w Setter else
    when k =? 2 then method_answer es i w Plain else
    Err malformed

-- the file's refusal comes first
unfoldable pub ask_kind : Got Typelib → ℕ → List ℕ → ℕ → Result (Search FoundMethod) Refusal
ask_kind (bad n q) i w k = Err (refusal n q)
ask_kind (got t e) i w k = kind_answer (entries_in t) i w k
