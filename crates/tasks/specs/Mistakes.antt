-- The line that tells a mistake.
-- Assumes nothing.
use Rattle.std.specs.Prelude.{List, ◌++◌, ℕ}
use Rattle.ascii.specs.Ascii.{ascii}
use Rattle.verbs.specs.declared.Verb.{Verb}
use Rattle.verbs.specs.declared.Verb.TheVariants as verb
use Rattle.text.specs.Line.{newline}
use Rattle.failures.specs.Lines.{verb_words}
use Rattle.rdb_tasks.specs.Asked as types
use Rattle.tasks.specs.declared.Mistake.{Mistake}
use Rattle.tasks.specs.declared.Mistake.TheVariants.{Blank, CarriageReturn, Spaces, Words, Files, TypesWords}

-- the words that a command takes
abbrev pub words_are : Verb → List ℕ
words_are v = ascii "error the words are: " ++ (verb_words v ++ newline)

unfoldable pub usage_text : Verb → List ℕ
usage_text (verb.Ask q) = words_are (verb.Ask q)
usage_text verb.List = words_are verb.List
usage_text verb.Table = words_are verb.Table
usage_text verb.Normal = words_are verb.Normal
usage_text verb.Adopt = words_are verb.Adopt
usage_text verb.Link = words_are verb.Link
usage_text verb.Salvage = words_are verb.Salvage
usage_text verb.Unknown = ascii "error unknown command; the commands are: check list table iid looks key method slot const normal adopt link salvage rdb office\n"

unfoldable pub mistake_text : Mistake → List ℕ
mistake_text Blank = ascii "error the line is blank\n"
mistake_text CarriageReturn = ascii "error the line ends in a carriage return; a newline alone ends a line\n"
mistake_text Spaces = ascii "error words are parted by single spaces, with none at the ends of a line\n"
mistake_text (Words v) = usage_text v
mistake_text Files = ascii "error a link takes at most 256 files\n"
mistake_text (TypesWords m q) = types.usage_text m q
