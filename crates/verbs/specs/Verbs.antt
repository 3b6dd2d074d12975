-- The first word of a command: what it asks for, and how many words it takes.
-- Assumes nothing.
use Rattle.std.specs.Prelude.{List, [], ◌∷◌, ℕ}
use Rattle.number.specs.Choice.{when◌then◌else◌}
use Rattle.key.specs.Word.{same_word}
use Rattle.verbs.specs.declared.Question.TheVariants.{Check, Iid, Looks, Key, Method, Slot, Constant}
use Rattle.verbs.specs.declared.Verb.{Verb}
use Rattle.verbs.specs.declared.Verb.TheVariants as verb

-- the words `check`, `list`, `table`, `iid`, `looks`, `key`, `method`, `slot`, `const`, `normal`, `adopt`, `link` and `salvage`
abbrev pub check : List ℕ
check = 99 ∷ 104 ∷ 101 ∷ 99 ∷ 107 ∷ []

abbrev pub list : List ℕ
list = 108 ∷ 105 ∷ 115 ∷ 116 ∷ []

abbrev pub table : List ℕ
table = 116 ∷ 97 ∷ 98 ∷ 108 ∷ 101 ∷ []

abbrev pub iid : List ℕ
iid = 105 ∷ 105 ∷ 100 ∷ []

abbrev pub looks : List ℕ
looks = 108 ∷ 111 ∷ 111 ∷ 107 ∷ 115 ∷ []

abbrev pub key : List ℕ
key = 107 ∷ 101 ∷ 121 ∷ []

abbrev pub method : List ℕ
method = 109 ∷ 101 ∷ 116 ∷ 104 ∷ 111 ∷ 100 ∷ []

abbrev pub slot : List ℕ
slot = 115 ∷ 108 ∷ 111 ∷ 116 ∷ []

abbrev pub const : List ℕ
const = 99 ∷ 111 ∷ 110 ∷ 115 ∷ 116 ∷ []

abbrev pub normal : List ℕ
normal = 110 ∷ 111 ∷ 114 ∷ 109 ∷ 97 ∷ 108 ∷ []

abbrev pub adopt : List ℕ
adopt = 97 ∷ 100 ∷ 111 ∷ 112 ∷ 116 ∷ []

abbrev pub link : List ℕ
link = 108 ∷ 105 ∷ 110 ∷ 107 ∷ []

abbrev pub salvage : List ℕ
salvage = 115 ∷ 97 ∷ 108 ∷ 118 ∷ 97 ∷ 103 ∷ 101 ∷ []

-- questions on a member of an interface
unfoldable pub member_of : List ℕ → Verb
member_of w =
    when same_word w method then verb.Ask Method else
    when same_word w slot then verb.Ask Slot else
    when same_word w const then verb.Ask Constant else
    verb.Unknown

-- these, and questions on the file and on an interface
unfoldable pub question_of : List ℕ → Verb
question_of w =
    when same_word w check then verb.Ask Check else
    when same_word w iid then verb.Ask Iid else
    when same_word w looks then verb.Ask Looks else
    when same_word w key then verb.Ask Key else
    member_of w

-- these, and what is not answered by one line from one file
unfoldable pub verb_of : List ℕ → Verb
verb_of w =
    when same_word w list then verb.List else
    when same_word w table then verb.Table else
    when same_word w normal then verb.Normal else
    when same_word w adopt then verb.Adopt else
    when same_word w link then verb.Link else
    when same_word w salvage then verb.Salvage else
    question_of w

-- how many words the command has, its first among them
unfoldable pub words_in : Verb → ℕ
-- check FILE
words_in (verb.Ask Check) = 2
-- iid FILE HEX
words_in (verb.Ask Iid) = 3
-- looks FILE HEX
words_in (verb.Ask Looks) = 3
-- key FILE NAMESPACE NAME
words_in (verb.Ask Key) = 4
-- method FILE INDEX NAME KIND
words_in (verb.Ask Method) = 5
-- slot FILE INDEX SLOT
words_in (verb.Ask Slot) = 4
-- const FILE INDEX NAME
words_in (verb.Ask Constant) = 4
-- list FILE
words_in verb.List = 2
-- table FILE NAMESPACE NAME
words_in verb.Table = 4
-- normal FILE OUT
words_in verb.Normal = 3
-- adopt FILE OUT
words_in verb.Adopt = 3
-- link A B OUT
words_in verb.Link = 4
-- salvage FILE OUT
words_in verb.Salvage = 3
words_in verb.Unknown = 0
