-- The line that tells a part of an entity of a types.rdb: `found`, then numbers, then texts.
-- Assumes nothing.
use Rattle.std.specs.Prelude.{List, [], ◌++◌, ℕ, ◌≤◌, length, take, drop}
use Rattle.number.specs.Choice.{when◌then◌else◌, ◌=?◌}
use Rattle.number.specs.Limits.{file_limit}
use Rattle.decimal.specs.Digits.{digits_of}
use Rattle.text.specs.Line.{space, newline}
use Rattle.said.specs.declared.Why.{Why}
use Rattle.said.specs.declared.Why.TheVariants.{Answered, Refused}
use Rattle.said.specs.Texts.{found, none_line, refused_line}
use Rattle.said.specs.Saying.{Saying, saying}
use Rattle.window.specs.Shown.{bytes_shown}
use Rattle.rdb_text.specs.declared.Text.{Text}
use Rattle.rdb_parts.specs.declared.PartAnswer.{PartAnswer}
use Rattle.rdb_parts.specs.declared.PartAnswer.TheVariants as answer

-- the bytes of a text in the file s
unfoldable pub bytes_at : List ℕ → Text → List ℕ
bytes_at s t = take t.len (drop t.at s)

-- bytes as a word of the line, after a space; no bytes are no word
unfoldable pub bytes_word : List ℕ → List ℕ
bytes_word w = when length w =? 0 then [] else space ++ bytes_shown w

-- a text: `AT LEN BYTES`, or `AT 0`
unfoldable pub text_words : List ℕ → Text → List ℕ
text_words s t = (digits_of t.at ++ (space ++ digits_of t.len)) ++ bytes_word (bytes_at s t)

-- an entry is `KIND OFFSET` and its key, a member its value as stored and its name, an attribute its kind and a parameter its direction with name and type,
-- a method its name and result type; a base, an exception and an annotation are a text
unfoldable pub part_text : List ℕ → PartAnswer → List ℕ
part_text s (answer.Text t) = (found ++ text_words s t) ++ newline
part_text s (answer.Entry x) = (((found ++ digits_of x.kind) ++ (space ++ digits_of x.offset)) ++ (space ++ text_words s x.key)) ++ newline
part_text s (answer.Member x) = ((found ++ digits_of x.value) ++ (space ++ text_words s x.name)) ++ newline
part_text s (answer.Typed x) = (((found ++ digits_of x.kind) ++ (space ++ text_words s x.name)) ++ (space ++ text_words s x.of)) ++ newline
part_text s (answer.Method x) = ((found ++ text_words s x.name) ++ (space ++ text_words s x.result)) ++ newline
part_text s answer.None = none_line
part_text s (answer.Refused why) = refused_line why

unfoldable pub part_why : PartAnswer → Why
part_why (answer.Text t) = Answered
part_why (answer.Entry x) = Answered
part_why (answer.Member x) = Answered
part_why (answer.Typed x) = Answered
part_why (answer.Method x) = Answered
part_why answer.None = Answered
part_why (answer.Refused why) = Refused why

-- part FILE PATH WHICH I [J]
unfoldable pub say_part : List ℕ → PartAnswer → Saying
say_part s a = saying (part_text s a) (part_why a)

-- where a part was found, the file is no longer than it may be
abbrev pub Small : List ℕ → PartAnswer → Type 0
Small s (answer.Text t) = length s ≤ file_limit
Small s (answer.Entry x) = length s ≤ file_limit
Small s (answer.Member x) = length s ≤ file_limit
Small s (answer.Typed x) = length s ≤ file_limit
Small s (answer.Method x) = length s ≤ file_limit
Small s answer.None = Unit {0}
Small s (answer.Refused why) = Unit {0}
