-- The line on standard error for a file that was cut or added to, 29 and 30: by how many bytes, and what the file is without those that follow its end.
-- Assumes nothing.
use Rattle.std.specs.Prelude.{List, [], ◌++◌, ℕ, ◌-◌, length, take, Err, Ok, Result}
use Rattle.number.specs.Choice.{when◌then◌else◌, ◌<?◌}
use Rattle.number.specs.Number.{be}
use Rattle.ascii.specs.Ascii.{ascii}
use Rattle.decimal.specs.Digits.{digits_of}
use Rattle.text.specs.Line.{newline}
use Rattle.reading.specs.declared.Refusal.{Refusal}
use Rattle.reader.specs.Reader.{check_of}
use Rattle.failures.specs.Shown.{shown_word}
use Rattle.reasons.specs.Refusals.{where_text}

-- of 29, with the number of bytes that are missing
unfoldable pub cut_text : ℕ → List ℕ
cut_text n = (ascii "the file ends " ++ digits_of n) ++ ascii " bytes before the length in its header: it was cut on its way"

-- the verdict on the bytes before those that follow
unfoldable pub without_text : Result ℕ Refusal → List ℕ
without_text (Ok n) = ascii "; without them the file is accepted"
without_text (Err x) = (ascii "; without them it is refused " ++ digits_of x.no) ++ (ascii " at " ++ digits_of x.place)

-- of 30, with the number of bytes that follow, and that verdict
unfoldable pub padded_text : ℕ → Result ℕ Refusal → List ℕ
padded_text n v = (digits_of n ++ ascii " bytes follow the end that the header gives: something was added, often by mail") ++ without_text v

-- the length field of the header, or 0 where the file ends before it
unfoldable pub said_length : List ℕ → ℕ
said_length s = when length s <? 24 then 0 else be 4 s 20

unfoldable pub length_text : List ℕ → ℕ → List ℕ
length_text s said =
    when length s <? said then cut_text (said - length s) else
    padded_text (length s - said) (check_of (take said s))

-- the whole line
unfoldable pub wrong_length_text : List ℕ → Refusal → List ℕ → List ℕ
wrong_length_text name why s = (ascii "xpt: " ++ shown_word name) ++ (((where_text why [] [] ++ ascii ": ") ++ length_text s (said_length s)) ++ newline)
