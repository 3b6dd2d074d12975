-- Document 02, "The whole pile": files linked one by one. What the files so far left stands in one of two buffers, and the next link writes the other.
-- Assumes nothing.
use Rattle.std.specs.Prelude.{List, [], ◌∷◌, ℕ, ◌+◌, ◌%◌, length, take, Err, Ok, Result}
use Rattle.std.proofs.Math.Option.{Option, none, some}
use Rattle.number.specs.Limits.{pile_limit}
use Rattle.number.specs.Choice.{when◌then◌else◌, ◌<?◌, ◌≤?◌, ◌=?◌}
use Rattle.reading.specs.Got.{Got, got, bad}
use Rattle.reader.specs.Values.{Typelib}
use Rattle.reader.specs.Reader.{decode}
use Rattle.meaning.specs.Stock.Form.{normal_form}
use Rattle.joining.specs.Outcome.{Outcome, refused, written, in_room, after}
use Rattle.link.specs.declared.Which.TheVariants.{First, Union}
use Rattle.link.specs.declared.LinkRefusal.{LinkRefusal}
use Rattle.link.specs.Outcome.{refusal_of, link_in, linked_as}
use Rattle.pile.specs.declared.Pile.{Pile}
use Rattle.pile.specs.declared.Added.{Added}
use Rattle.pile.specs.declared.Added.TheVariants.{Grown, Refused, Full}

-- a typelib that says nothing, as its normal form
abbrev pub empty_file : List ℕ
empty_file = normal_form []

-- before the first file
unfoldable pub no_files : Pile
no_files = record { files = 0; length = 0 }

-- ---- one more file

-- the first file is taken as it is, unless it is refused
unfoldable pub whole_of : List ℕ → Got Typelib → Outcome LinkRefusal
whole_of f (bad n q) = refused (refusal_of First n q)
whole_of f (got t e) = written f

unfoldable pub whole_in : ℕ → List ℕ → Outcome LinkRefusal
whole_in room f = in_room (refusal_of Union) room (whole_of f (decode f))

-- each further one is linked with what the files before it left at the front of `held`
unfoldable pub more_in : ℕ → Pile → List ℕ → List ℕ → Outcome LinkRefusal
more_in room p held f = when p.files =? 0 then whole_in room f else link_in room (take p.length held) f

-- the answer, and the buffer that is written afterwards
unfoldable pub more_answer : Pile → List ℕ → List ℕ → List ℕ → Result ℕ LinkRefusal
more_answer p held f out = linked_as (more_in (length out) p held f)

unfoldable pub more_buffer : Pile → List ℕ → List ℕ → List ℕ → List ℕ
more_buffer p held f out = after (more_in (length out) p held f) out

-- Links are counted from 1. The first file belongs to the first link.
unfoldable pub link_count : Pile → ℕ
link_count p = when p.files =? 0 then 1 else p.files

unfoldable pub grown_as : Pile → Result ℕ LinkRefusal → Added
grown_as p (Ok n) = Grown (record { files = p.files + 1; length = n })
grown_as p (Err x) = Refused (record { why = x; step = link_count p })

-- ---- two buffers in turn

-- an answer, and the two buffers afterwards
pub data Turn : Type 0 where
  turn : Added → List ℕ → List ℕ → Turn

unfoldable pub answer_in : Turn → Added
answer_in (turn r one other) = r

unfoldable pub first_in : Turn → List ℕ
first_in (turn r one other) = one

unfoldable pub second_in : Turn → List ℕ
second_in (turn r one other) = other

-- What the first, third .. file leaves goes into the first buffer, what the others leave into the second. A refusal leaves both as they were, so does a file too many.
unfoldable pub added : Pile → List ℕ → List ℕ → List ℕ → Turn
added p f one other =
    when pile_limit ≤? p.files then turn Full one other else
    when p.files % 2 =? 0 then turn (grown_as p (more_answer p other f one)) (more_buffer p other f one) other else
    turn (grown_as p (more_answer p one f other)) one (more_buffer p one f other)

-- after the last file: a single one is linked with the empty typelib, which is also what no files leave; it counts as a file of the pile
unfoldable pub ended : Pile → List ℕ → List ℕ → Turn
ended p one other = when 1 <? p.files then turn (Grown p) one other else added p empty_file one other

-- ---- the whole pile

-- go on, unless there was a refusal
unfoldable pub onward : (Pile → List ℕ → List ℕ → Turn) → Turn → Turn
onward go (turn (Grown p) one other) = go p one other
onward go (turn (Refused x) one other) = turn (Refused x) one other
onward go (turn Full one other) = turn Full one other

unfoldable pub add_all : Turn → List (List ℕ) → Turn
add_all t [] = t
add_all t (f ∷ fs) = add_all (onward (λ p. added p f) t) fs

unfoldable pub piled : List (List ℕ) → List ℕ → List ℕ → Turn
piled fs one other = onward ended (add_all (turn (Grown no_files) one other) fs)

-- where what is left stands
unfoldable pub held_by : Pile → List ℕ → List ℕ → List ℕ
held_by p one other = when p.files % 2 =? 0 then take p.length other else take p.length one

unfoldable pub left_of : Turn → Option (List ℕ)
left_of (turn (Grown p) one other) = some (held_by p one other)
left_of (turn (Refused x) one other) = none
left_of (turn Full one other) = none

-- the file that all of them leave, where none is refused
unfoldable pub pile : List (List ℕ) → List ℕ → List ℕ → Option (List ℕ)
pile fs one other = left_of (piled fs one other)
