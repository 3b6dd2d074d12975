-- The help, whole and of one command, and the version; each line with its newline.
-- Assumes nothing.
use Rattle.std.specs.Prelude.{List, [], ◌++◌, ℕ}
use Rattle.ascii.specs.Ascii.{ascii}
use Rattle.text.specs.Line.{newline}
use Rattle.verbs.specs.declared.Question.{Question}
use Rattle.verbs.specs.declared.Question.TheVariants.{Check, Iid, Looks, Key, Method, Slot, Constant}
use Rattle.verbs.specs.declared.Verb.{Verb}
use Rattle.verbs.specs.declared.Verb.TheVariants as verb
use Rattle.failures.specs.Lines.{verb_words}

-- ---- one command

-- what a question is answered with
unfoldable pub answer_text : Question → List ℕ
answer_text Check = ascii "accepted and the number of interfaces, or refused with a number and a place"
answer_text Iid = ascii "found and the index of the interface with this IID, or none"
answer_text Looks = ascii "found and the index of the interface with this IID, or none, and how many entries were looked at"
answer_text Key = ascii "found and the index of the interface of this name, or none; - is the default namespace"
answer_text Method = ascii "found, the index of the interface that has the method, its position there, slot, distance and total"
answer_text Slot = ascii "the method in this slot, told in the same way"
answer_text Constant = ascii "found, the type of the constant and its value"

-- what a command is for
unfoldable pub purpose_text : Verb → List ℕ
purpose_text (verb.Ask question) = answer_text question
purpose_text verb.List = ascii "every interface with its methods and constants"
purpose_text verb.Table = ascii "every slot of the interface of this name in order, inherited ones first; ? for a slot that is not known"
purpose_text verb.Normal = ascii "writes the normal form of FILE to OUT"
purpose_text verb.Adopt = ascii "writes a FILE of libxpt, its directory counted from 1, to OUT in the published layout"
purpose_text verb.Link = ascii "writes the union of two files or more, up to 256, to OUT"
purpose_text verb.Salvage = ascii "writes a damaged FILE without its broken descriptors to OUT, and tells index in FILE, refusal and place of each"
purpose_text verb.Unknown = []

-- a line with its words, and one that says what it is for
unfoldable pub entry_text : Verb → List ℕ
entry_text v = (((ascii "xpt " ++ verb_words v) ++ (newline ++ ascii "    ")) ++ purpose_text v) ++ newline

-- ---- all commands

abbrev pub intro_text : List ℕ
intro_text = ascii "xpt checks, lists, asks, adopts, normalises, links and salvages XPCOM typelibs. Each answer is one line on standard output, but for a listing, a table and what was salvaged." ++ (newline ++ newline)

-- about a file and its interfaces
unfoldable pub asking_text : List ℕ
asking_text = ((((entry_text (verb.Ask Check) ++ entry_text verb.List) ++ entry_text verb.Table) ++ entry_text (verb.Ask Iid)) ++ entry_text (verb.Ask Looks)) ++ entry_text (verb.Ask Key)

-- about the members of an interface
unfoldable pub member_text : List ℕ
member_text = (entry_text (verb.Ask Method) ++ entry_text (verb.Ask Slot)) ++ entry_text (verb.Ask Constant)

-- about a types.rdb, in either reading
abbrev pub rdb_check_help : List ℕ
rdb_check_help = ascii "xpt rdb check FILE" ++ (newline ++ (ascii "    accepted and the number of entries visited, or refused with a number and a place; FILE is a types.rdb" ++ newline))

abbrev pub rdb_list_help : List ℕ
rdb_list_help = ascii "xpt rdb list FILE" ++ (newline ++ (ascii "    every path, with E, the kind byte and the offset of an entity, or C, the type and the value of a constant" ++ newline))

abbrev pub rdb_entity_help : List ℕ
rdb_entity_help = ascii "xpt rdb entity FILE PATH" ++ (newline ++ (ascii "    found, the kind byte and the offset of what the dotted path leads to, or none" ++ newline))

abbrev pub rdb_const_help : List ℕ
rdb_const_help = ascii "xpt rdb const FILE PATH" ++ (newline ++ (ascii "    found, the type of the constant and its value, the bits of a float or double in hexadecimal, or none" ++ newline))

abbrev pub rdb_part_help : List ℕ
rdb_part_help = ascii "xpt rdb part FILE PATH WHICH I [J]" ++ (newline ++ (ascii "    found and part I of what the path leads to, or none: WHICH is entry, member, base, optional, attribute, method or note" ++ (newline ++ (ascii "    with J what that part has at J: entry-note, member-note, base-note, optional-note, get-exception, set-exception, attribute-note, parameter, exception or method-note" ++ newline))))

abbrev pub office_help : List ℕ
office_help = ascii "xpt office check|list|entity|const|part .." ++ (newline ++ (ascii "    the same where read-only attributes have no set exceptions, as office suites write them" ++ newline))

unfoldable pub types_text : List ℕ
types_text = ((((rdb_check_help ++ rdb_list_help) ++ rdb_entity_help) ++ rdb_const_help) ++ rdb_part_help) ++ office_help

-- `batch`
abbrev pub batch_text : List ℕ
batch_text = ascii "xpt batch" ++ (newline ++ (ascii "    takes one command a line from standard input, without the word xpt" ++ newline))

-- `--help` and `--version`
abbrev pub option_text : List ℕ
option_text = ascii "xpt COMMAND --help, xpt --version" ++ (newline ++ (ascii "    one command of these; the version and the kit that proved it" ++ (newline ++ newline)))

-- what writes files, and the rest
unfoldable pub output_text : List ℕ
output_text = ((((entry_text verb.Normal ++ entry_text verb.Adopt) ++ entry_text verb.Link) ++ entry_text verb.Salvage) ++ batch_text) ++ option_text

-- what the words stand for
abbrev pub file_note : List ℕ
file_note = ascii "FILE, A, B and so on are typelibs, but for rdb and office; - is standard input. An OUT that is there already is written over with -f only." ++ newline

abbrev pub hex_note : List ℕ
hex_note = ascii "HEX is an IID: 32 hexadecimal digits, or in groups of 8-4-4-4-12, with braces around them or without." ++ newline

abbrev pub index_note : List ℕ
index_note = ascii "INDEX counts interfaces from 1, as `xpt list` shows them; SLOT counts from 0." ++ newline

abbrev pub stream_note : List ℕ
stream_note = ascii "The answer stands on standard output; the reason of a refusal or an error stands on standard error." ++ newline

unfoldable pub note_text : List ℕ
note_text = ((file_note ++ hex_note) ++ index_note) ++ stream_note

unfoldable pub help_text : List ℕ
help_text = ((((intro_text ++ asking_text) ++ member_text) ++ types_text) ++ output_text) ++ note_text

-- the help of one command; the whole where it is unknown
unfoldable pub help_of : Verb → List ℕ
help_of (verb.Ask question) = entry_text (verb.Ask question)
help_of verb.List = entry_text verb.List
help_of verb.Table = entry_text verb.Table
help_of verb.Normal = entry_text verb.Normal
help_of verb.Adopt = entry_text verb.Adopt
help_of verb.Link = entry_text verb.Link
help_of verb.Salvage = entry_text verb.Salvage
help_of verb.Unknown = help_text

unfoldable pub version_text : List ℕ
version_text = ascii "xpt 2.0 (rattle-kit-13f logic dac8208d650f15bf)" ++ newline
