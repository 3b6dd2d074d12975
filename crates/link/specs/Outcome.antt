-- Document 01, what normalising a file and linking two give: the answer, and every byte of the output buffer.
-- Assumes nothing.
use Rattle.std.specs.Prelude.{List, ℕ, length, Err, Ok, Result}
use Rattle.reading.specs.Got.{Got, got, bad}
use Rattle.reading.specs.declared.Refusal.{Refusal}
use Rattle.reader.specs.Values.{Typelib, entries_in}
use Rattle.reader.specs.Reader.{decode}
use Rattle.meaning.specs.Meaning.{meaning}
use Rattle.meaning.specs.Facts.Link.{link_entries, normal_entries}
use Rattle.meaning.specs.Stock.Uses.{normal_length}
use Rattle.joining.specs.Outcome.{Outcome, refused, written, refusal, encoded, in_room, after, normalised_as}
use Rattle.link.specs.declared.Which.{Which}
use Rattle.link.specs.declared.Which.TheVariants.{First, Second, Union}
use Rattle.link.specs.declared.LinkRefusal.{LinkRefusal}

unfoldable pub refusal_of : Which → ℕ → ℕ → LinkRefusal
refusal_of w n q = record { which = w; why = refusal n q }

-- ---- normalising

-- the normal form of a file's meaning, or the file's own refusal, or 26
unfoldable pub normal_of : Got Typelib → Outcome Refusal
normal_of (bad n q) = refused (refusal n q)
normal_of (got t e) = encoded refusal (normal_entries normal_length (meaning (entries_in t)))

unfoldable pub normalise_in : ℕ → List ℕ → Outcome Refusal
normalise_in room s = in_room refusal room (normal_of (decode s))

-- the answer, and the buffer afterwards
unfoldable pub normalise_answer : List ℕ → List ℕ → Result ℕ Refusal
normalise_answer s out = normalised_as (normalise_in (length out) s)

unfoldable pub normalise_buffer : List ℕ → List ℕ → List ℕ
normalise_buffer s out = after (normalise_in (length out) s) out

-- ---- linking

-- the normal form of the union of two files' meanings; or the first file's refusal, or the second's, or the lowest of 21 to 26 that applies
unfoldable pub link_of : Got Typelib → Got Typelib → Outcome LinkRefusal
link_of (bad n q) g = refused (refusal_of First n q)
link_of (got t e) (bad n q) = refused (refusal_of Second n q)
link_of (got t e) (got u f) = encoded (refusal_of Union) (link_entries normal_length (meaning (entries_in t)) (meaning (entries_in u)))

unfoldable pub link_in : ℕ → List ℕ → List ℕ → Outcome LinkRefusal
link_in room a b = in_room (refusal_of Union) room (link_of (decode a) (decode b))

unfoldable pub linked_as : Outcome LinkRefusal → Result ℕ LinkRefusal
linked_as (refused x) = Err x
linked_as (written bytes) = Ok (length bytes)

-- the answer, and the buffer afterwards
unfoldable pub link_answer : List ℕ → List ℕ → List ℕ → Result ℕ LinkRefusal
link_answer a b out = linked_as (link_in (length out) a b)

unfoldable pub link_buffer : List ℕ → List ℕ → List ℕ → List ℕ
link_buffer a b out = after (link_in (length out) a b) out
