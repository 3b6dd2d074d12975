-- The lines that begin with `error`, and those for standard error that go with them, each with its newline.
-- Assumes nothing.
use Rattle.std.specs.Prelude.{List, [], ◌++◌, ℕ, ◌+◌, ℤ, length, drop}
use Rattle.number.specs.Choice.{when◌then◌else◌, ◌<?◌, ◌=?◌}
use Rattle.ascii.specs.Ascii.{ascii}
use Rattle.signed.specs.Bits.{or_zero}
use Rattle.text.specs.Line.{newline}
use Rattle.verbs.specs.declared.Question.{Question}
use Rattle.verbs.specs.declared.Question.TheVariants.{Check, Iid, Looks, Key, Method, Slot, Constant}
use Rattle.verbs.specs.declared.Verb.{Verb}
use Rattle.verbs.specs.declared.Verb.TheVariants as verb
use Rattle.failures.specs.Room.{word_limit}
use Rattle.failures.specs.Shown.{shown_word}
use Rattle.failures.specs.Reasons.{reason_text}

-- ---- the words of a line

-- of a command that is answered from one file
unfoldable pub question_words : Question → List ℕ
question_words Check = ascii "check FILE"
question_words Iid = ascii "iid FILE HEX"
question_words Looks = ascii "looks FILE HEX"
question_words Key = ascii "key FILE NAMESPACE NAME"
question_words Method = ascii "method FILE INDEX NAME getter|setter|plain"
question_words Slot = ascii "slot FILE INDEX SLOT"
question_words Constant = ascii "const FILE INDEX NAME"

-- of every command
unfoldable pub verb_words : Verb → List ℕ
verb_words (verb.Ask question) = question_words question
verb_words verb.List = ascii "list FILE"
verb_words verb.Table = ascii "table FILE NAMESPACE NAME"
verb_words verb.Normal = ascii "normal [-f] FILE OUT"
verb_words verb.Adopt = ascii "adopt [-f] FILE OUT"
verb_words verb.Link = ascii "link [-f] A B .. OUT"
verb_words verb.Salvage = ascii "salvage [-f] FILE OUT"
verb_words verb.Unknown = []

unfoldable pub line_too_long_text : List ℕ
line_too_long_text = ascii "error the line has more than 65,535 bytes" ++ newline

unfoldable pub arguments_too_long_text : List ℕ
arguments_too_long_text = ascii "error the arguments have more than 65,536 bytes" ++ newline

unfoldable pub no_command_text : List ℕ
no_command_text = ascii "error no command" ++ newline

unfoldable pub input_in_batch_text : List ℕ
input_in_batch_text = ascii "error - is standard input, which has the commands here" ++ newline

-- ---- files

-- `cannot read NAME: REASON`, and the same of writing, by errno's number
unfoldable pub failed_text : List ℕ → List ℕ → ℕ → List ℕ
failed_text failed name n = (((failed ++ shown_word name) ++ ascii ": ") ++ reason_text n) ++ newline

unfoldable pub unread_text : List ℕ → ℤ → List ℕ
unread_text name error = failed_text (ascii "error cannot read ") name (or_zero error)

unfoldable pub unwritten_text : List ℕ → ℤ → List ℕ
unwritten_text name error = failed_text (ascii "error cannot write ") name (or_zero error)

unfoldable pub taken_text : List ℕ → List ℕ
taken_text name = (ascii "error " ++ shown_word name) ++ (ascii " is there already; with -f before the files it is written over" ++ newline)

unfoldable pub no_file_text : List ℕ → List ℕ
no_file_text name = (ascii "error cannot write " ++ shown_word name) ++ (ascii ": it is no ordinary file" ++ newline)

-- ---- standard error

-- a line without the word `error` and the space after it
unfoldable pub without_error : List ℕ → List ℕ
without_error line = when length line <? 6 then line else drop 6 line

-- `NAME: `
abbrev pub naming : List ℕ → List ℕ
naming name = shown_word name ++ ascii ": "

-- that; left out where there is no name, or where it and the line are too long together
unfoldable pub name_before : List ℕ → List ℕ → List ℕ
name_before name line =
    when length name =? 0 then [] else
    when word_limit <? length name + length line then [] else
    naming name

-- `xpt: NAME: ` and the line without its `error `
unfoldable pub aside_text : List ℕ → List ℕ → List ℕ
aside_text name line = (ascii "xpt: " ++ name_before name line) ++ without_error line

unfoldable pub hint_text : List ℕ
hint_text = ascii "xpt: `xpt help` shows the commands and their words" ++ newline

unfoldable pub output_gone_text : List ℕ
output_gone_text = ascii "xpt: standard output cannot be written; the rest is left out" ++ newline
