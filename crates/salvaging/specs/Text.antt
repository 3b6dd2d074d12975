-- Document 02, #110, on the command line: the text that answers `salvage FILE OUT`.
-- Assumes nothing.
use Rattle.std.specs.Prelude.{Bool, false, List, [], ◌∷◌, ◌++◌, ℕ, length, Result}
use Rattle.number.specs.Limits.{entry_limit}
use Rattle.number.specs.Choice.{when◌then◌else◌, ◌=?◌}
use Rattle.reading.specs.declared.Refusal.{Refusal}
use Rattle.ascii.specs.Ascii.{ascii}
use Rattle.decimal.specs.Digits.{digits_of}
use Rattle.text.specs.Line.{space, newline}
use Rattle.said.specs.declared.Why.TheVariants.{Answered, Refused}
use Rattle.said.specs.Texts.{refused_line, written}
use Rattle.said.specs.Saying.{Saying, saying}
use Rattle.joining.specs.Outcome as joining
use Rattle.joining.specs.Outcome.{Outcome, after, normalised_as}
use Rattle.listed.specs.Text.{shown, closing}
use Rattle.mend.specs.Left.{Report, index_of, number_of, place_of, read_left}
use Rattle.salvage.specs.Salvage.{salvage_of, reports_in}

-- ---- the text

-- `written LEN changed K`
unfoldable pub changed_line : ℕ → ℕ → List ℕ
changed_line n k = ((written ++ digits_of n) ++ (ascii " changed " ++ digits_of k)) ++ newline

-- `INDEX NO PLACE`
unfoldable pub numbers_line : ℕ → ℕ → ℕ → List ℕ
numbers_line i n q = ((digits_of i ++ (space ++ digits_of n)) ++ (space ++ digits_of q)) ++ newline

-- one for each report
unfoldable pub report_lines : List Report → List ℕ
report_lines [] = []
report_lines (r ∷ rs) = numbers_line (index_of r) (number_of r) (place_of r) ++ report_lines rs

-- in a batch the lines are one, where there are more than the first
unfoldable pub in_one_line : Bool → ℕ → Bool
in_one_line in_batch k = when k =? 0 then false else in_batch

-- of a file of which n bytes were written
unfoldable pub salvaged_text : Bool → ℕ → List Report → List ℕ
salvaged_text in_batch n rs =
    let one : Bool = in_one_line in_batch (length rs) in
    shown one (changed_line n (length rs) ++ report_lines rs) ++ closing one

unfoldable pub saying_salvaged : Bool → Outcome Refusal → List Report → Saying
saying_salvaged in_batch (joining.refused x) rs = saying (refused_line x) (Refused x)
saying_salvaged in_batch (joining.written bytes) rs = saying (salvaged_text in_batch (length bytes) rs) Answered

-- ---- of a file and an output buffer

-- with lists of 1,024 numbers, and so many bytes of room
unfoldable pub salvage_in : ℕ → List ℕ → Outcome Refusal
salvage_in room s = salvage_of (record { indexes = entry_limit; numbers = entry_limit; places = entry_limit; bytes = room }) (read_left s)

-- salvage FILE OUT
unfoldable pub salvage_saying : Bool → List ℕ → List ℕ → Saying
salvage_saying in_batch s out = saying_salvaged in_batch (salvage_in (length out) s) (reports_in (read_left s))

-- whether it is written, and how many bytes
unfoldable pub salvage_answer : List ℕ → List ℕ → Result ℕ Refusal
salvage_answer s out = normalised_as (salvage_in (length out) s)

-- the output buffer afterwards
unfoldable pub salvage_buffer : List ℕ → List ℕ → List ℕ
salvage_buffer s out = after (salvage_in (length out) s) out
