-- What a line asks about a types.rdb: its second word, with `part` its fifth too, and how many words it has. The first is `rdb` or `office`, the third the file.
-- Assumes nothing.
use Rattle.std.specs.Prelude.{Bool, true, false, List, ◌++◌, ℕ}
use Rattle.ascii.specs.Ascii.{ascii}
use Rattle.number.specs.Choice.{when◌then◌else◌, ◌=?◌}
use Rattle.key.specs.Word.{same_word}
use Rattle.text.specs.Line.{newline}
use Rattle.rdb_interface.specs.declared.SetCount.{SetCount}
use Rattle.rdb_interface.specs.declared.SetCount.TheVariants.{Always, UnlessReadOnly}
use Rattle.rdb_parts.specs.declared.Part.TheVariants as part
use Rattle.rdb_parts.specs.declared.Inner.TheVariants as inner
use Rattle.rdb_tasks.specs.declared.Asked.{Asked}
use Rattle.rdb_tasks.specs.declared.Asked.TheVariants as asked

-- the first word is one of these
unfoldable pub is_types : List ℕ → Bool
is_types w = when same_word w (ascii "rdb") then true else same_word w (ascii "office")

-- how it has the file read: `office` as office suites write it, `rdb` as document 001 says
unfoldable pub reading_of : List ℕ → SetCount
reading_of w = when same_word w (ascii "office") then UnlessReadOnly else Always

-- ---- which part

-- a list of a part that is no annotations
unfoldable pub list_of : List ℕ → Asked
list_of w =
    when same_word w (ascii "get-exception") then asked.Inner inner.GetException else
    when same_word w (ascii "set-exception") then asked.Inner inner.SetException else
    when same_word w (ascii "parameter") then asked.Inner inner.Parameter else
    when same_word w (ascii "exception") then asked.Inner inner.Exception else
    asked.Which

-- the annotations of a part, or that
unfoldable pub note_of : List ℕ → Asked
note_of w =
    when same_word w (ascii "entry-note") then asked.Inner inner.EntryNote else
    when same_word w (ascii "member-note") then asked.Inner inner.MemberNote else
    when same_word w (ascii "base-note") then asked.Inner inner.BaseNote else
    when same_word w (ascii "optional-note") then asked.Inner inner.OptionalNote else
    when same_word w (ascii "attribute-note") then asked.Inner inner.AttributeNote else
    when same_word w (ascii "method-note") then asked.Inner inner.MethodNote else
    list_of w

-- a list of the entity itself, or that
unfoldable pub which_of : List ℕ → Asked
which_of w =
    when same_word w (ascii "entry") then asked.Part part.Entry else
    when same_word w (ascii "member") then asked.Part part.Member else
    when same_word w (ascii "base") then asked.Part part.Base else
    when same_word w (ascii "optional") then asked.Part part.Optional else
    when same_word w (ascii "attribute") then asked.Part part.Attribute else
    when same_word w (ascii "method") then asked.Part part.Method else
    when same_word w (ascii "note") then asked.Part part.Note else
    note_of w

-- ---- the question

-- by the second word and the fifth
unfoldable pub asked_of : List ℕ → List ℕ → Asked
asked_of w which =
    when same_word w (ascii "check") then asked.Check else
    when same_word w (ascii "list") then asked.List else
    when same_word w (ascii "entity") then asked.Entity else
    when same_word w (ascii "const") then asked.Constant else
    when same_word w (ascii "part") then which_of which else
    asked.Unknown

-- how many words it has, the first among them
unfoldable pub has_words : Asked → ℕ → Bool
has_words asked.Check n = n =? 3
has_words asked.List n = n =? 3
has_words asked.Entity n = n =? 4
has_words asked.Constant n = n =? 4
has_words (asked.Part p) n = n =? 6
has_words (asked.Inner p) n = n =? 7
has_words asked.Which n = false
has_words asked.Unknown n = false

-- ---- mistakes

-- the command that reads a file so
unfoldable pub command_name : SetCount → List ℕ
command_name Always = ascii "rdb"
command_name UnlessReadOnly = ascii "office"

-- what follows that name
unfoldable pub asked_words : Asked → List ℕ
asked_words asked.Check = ascii " check FILE"
asked_words asked.List = ascii " list FILE"
asked_words asked.Entity = ascii " entity FILE PATH"
asked_words asked.Constant = ascii " const FILE PATH"
asked_words (asked.Part p) = ascii " part FILE PATH entry|member|base|optional|attribute|method|note I"
asked_words (asked.Inner p) = ascii " part FILE PATH entry-note|member-note|base-note|optional-note|get-exception|set-exception|attribute-note|parameter|exception|method-note I J"
asked_words asked.Which = ascii " part FILE PATH entry|member|base|optional|attribute|method|note I, or entry-note|member-note|base-note|optional-note|get-exception|set-exception|attribute-note|parameter|exception|method-note I J"
asked_words asked.Unknown = ascii " check|list|entity|const|part FILE .."

-- the line for a mistake in the words
unfoldable pub usage_text : SetCount → Asked → List ℕ
usage_text m q = ((ascii "error the words are: " ++ command_name m) ++ asked_words q) ++ newline
