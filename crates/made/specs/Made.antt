-- The answer to a command, and those of the commands that write a file.
-- Assumes nothing.
use Rattle.link.specs.declared.LinkRefusal.{LinkRefusal}
use Rattle.reading.specs.declared.Refusal.{Refusal}
use Rattle.std.specs.Prelude.{◌≡◌, Bool, List, [], ℕ, ◌≤◌, take, Err, None, Ok, Option, Result, Some}
use Rattle.said.specs.Saying.{Saying, Says}
use Rattle.link.specs.declared.Which.{Which}
use Rattle.link.specs.declared.Which.TheVariants.{First, Union}
use Rattle.link.specs.Outcome.{normalise_answer, normalise_buffer, link_answer, link_buffer}
use Rattle.reader.specs.Reader.{check_of}
use Rattle.adopt.specs.Adopt.{adopt_answer, adopt_buffer}
use Rattle.outcomes.specs.Lines.{say_normalised, say_adopted, say_linked}
use Rattle.salvaging.specs.Text.{salvage_saying, salvage_answer, salvage_buffer}
use Rattle.made.specs.declared.Made.{Made}

-- the text with why it is said, of which file a refusal is, what is to be saved, and the output buffer afterwards
pub record Answer : Type 0 where
  pub saying : Saying
  pub whose : Which
  pub save : Option ℕ
  pub output : List ℕ

-- an answer from the first file that leaves the output as it was
abbrev pub answered : Saying → List ℕ → Answer
answered x out = record { saying = x; whose = First; save = None; output = out }

-- what was written is saved
unfoldable pub normalised_save : Result ℕ Refusal → Option ℕ
normalised_save (Ok n) = Some n
normalised_save (Err x) = None

-- what was written of this buffer
unfoldable pub written_in : Result ℕ Refusal → List ℕ → List ℕ
written_in (Ok n) out = take n out
written_in (Err x) out = []

unfoldable pub linked_save : Result ℕ LinkRefusal → Option ℕ
linked_save (Ok n) = Some n
linked_save (Err x) = None

unfoldable pub linked_whose : Result ℕ LinkRefusal → Which
linked_whose (Ok n) = Union
linked_whose (Err x) = x.which

-- the command `normal` about the bytes of a file, with the output buffer as it was; so each of the others
unfoldable pub normal_made : List ℕ → List ℕ → Answer
normal_made first out =
    let n : Result ℕ Refusal = normalise_answer first out in
    record { saying = say_normalised n; whose = First; save = normalised_save n; output = normalise_buffer first out }

unfoldable pub adopt_made : List ℕ → List ℕ → Answer
adopt_made first out =
    let n : Result ℕ Refusal = adopt_answer first out in
    let left : List ℕ = adopt_buffer first out in
    record { saying = say_adopted n (check_of (written_in n left)); whose = First; save = normalised_save n; output = left }

unfoldable pub link_made : List ℕ → List ℕ → List ℕ → Answer
link_made first second out =
    let l : Result ℕ LinkRefusal = link_answer first second out in
    record { saying = say_linked l; whose = linked_whose l; save = linked_save l; output = link_buffer first second out }

unfoldable pub salvage_made : Bool → List ℕ → List ℕ → Answer
salvage_made b first out = record { saying = salvage_saying b first out; whose = First; save = normalised_save (salvage_answer first out); output = salvage_buffer first out }

-- no more than so many bytes are saved
abbrev pub SavedIn : ℕ → Option ℕ → Type 0
SavedIn room None = Unit {0}
SavedIn room (Some n) = n ≤ room

-- the answer's text is at the front of the text buffer, where nothing else was changed, and the output buffer is as the answer says
pub record Makes (x : Answer) (before : List ℕ) (r : Made) (out after : List ℕ) : Type 0 where
  pub says : Says x.saying before r.said after
  pub whose : r.whose ≡ x.whose
  pub save : r.save ≡ x.save
  pub output : out ≡ x.output
