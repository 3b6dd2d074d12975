-- What a line asks for. Its words are parted by a space in a batch and by a zero byte between arguments.
-- Assumes nothing.
use Rattle.std.specs.Prelude.{Bool, true, false, List, ℕ, ◌+◌, ◌-◌, length, get_or}
use Rattle.number.specs.Limits.{pile_limit}
use Rattle.ascii.specs.Ascii.{ascii}
use Rattle.number.specs.Choice.{when◌then◌else◌, ◌<?◌, ◌=?◌}
use Rattle.key.specs.Word.{same_word}
use Rattle.words.specs.Words.{words_of, word_in}
use Rattle.verbs.specs.declared.Verb.{Verb}
use Rattle.verbs.specs.declared.Verb.TheVariants as verb
use Rattle.verbs.specs.Verbs.{verb_of, words_in}
use Rattle.verbs.specs.Empty.{has_empty}
use Rattle.rdb_interface.specs.declared.SetCount.{SetCount}
use Rattle.rdb_tasks.specs.declared.Asked.{Asked}
use Rattle.rdb_tasks.specs.Asked.{is_types, reading_of, asked_of, has_words}
use Rattle.tasks.specs.declared.Mistake.TheVariants.{Blank, CarriageReturn, Spaces, Words, Files, TypesWords}
use Rattle.tasks.specs.declared.Task.{Task}
use Rattle.tasks.specs.declared.Task.TheVariants.{Mistaken, Run, Pile, Types}

-- the separator of a batch
unfoldable pub in_batch : ℕ → Bool
in_batch separator = separator =? 32

unfoldable pub writes_file : Verb → Bool
writes_file (verb.Ask q) = false
writes_file verb.List = false
writes_file verb.Table = false
writes_file verb.Normal = true
writes_file verb.Adopt = true
writes_file verb.Link = true
writes_file verb.Salvage = true
writes_file verb.Unknown = false

-- `-f` stands before the files of a command that writes one
unfoldable pub is_forced : List (List ℕ) → Bool
is_forced ws = when writes_file (verb_of (word_in 0 ws)) then same_word (word_in 1 ws) (ascii "-f") else false

-- so many words more stand before the first file: `-f`, or what is asked about a types.rdb
unfoldable pub shift : List (List ℕ) → ℕ
shift ws =
    when is_types (word_in 0 ws) then 1 else
    when is_forced ws then 1 else
    0

-- the k-th word of the command, from 1; those before the first file are not counted
abbrev pub argument : ℕ → List (List ℕ) → List ℕ
argument k ws = word_in (k + shift ws) ws

-- a link of n words, which are not those of two files; `more` of them stand before the first file. Beside the files there are its name and that of the output.
unfoldable pub pile_task : ℕ → ℕ → Task
pile_task n more =
    when n <? 5 + more then Mistaken (Words verb.Link) else
    when pile_limit <? n - (2 + more) then Mistaken Files else
    Pile (n - (2 + more))

-- a command with another number of words than it takes: of links some have more files
unfoldable pub other_task : Verb → ℕ → ℕ → Task
other_task (verb.Ask q) n more = Mistaken (Words (verb.Ask q))
other_task verb.List n more = Mistaken (Words verb.List)
other_task verb.Table n more = Mistaken (Words verb.Table)
other_task verb.Normal n more = Mistaken (Words verb.Normal)
other_task verb.Adopt n more = Mistaken (Words verb.Adopt)
other_task verb.Link n more = pile_task n more
other_task verb.Salvage n more = Mistaken (Words verb.Salvage)
other_task verb.Unknown n more = Mistaken (Words verb.Unknown)

-- the command of the first word, with as many words as it takes
unfoldable pub verb_task : List (List ℕ) → Task
verb_task ws =
    let v : Verb = verb_of (word_in 0 ws) in
    when length ws =? words_in v + shift ws then Run v else other_task v (length ws) (shift ws)

-- what the second word asks, and the fifth where it asks for a part
unfoldable pub asked_in : List (List ℕ) → Asked
asked_in ws = asked_of (word_in 1 ws) (word_in 4 ws)

-- a question about a types.rdb, with as many words as it takes
unfoldable pub types_task : List (List ℕ) → Task
types_task ws =
    let m : SetCount = reading_of (word_in 0 ws) in
    let q : Asked = asked_in ws in
    when has_words q (length ws) then Types m q else Mistaken (TypesWords m q)

unfoldable pub words_task : List (List ℕ) → Task
words_task ws = when is_types (word_in 0 ws) then types_task ws else verb_task ws

-- a line of a batch: single spaces part its words, and a newline alone ended it
unfoldable pub line_task : List ℕ → Task
line_task line =
    when length line =? 0 then Mistaken Blank else
    when get_or line (length line - 1) 0 =? 13 then Mistaken CarriageReturn else
    when has_empty (words_of 32 line) then Mistaken Spaces else
    words_task (words_of 32 line)

unfoldable pub task_of : ℕ → List ℕ → Task
task_of separator line = when in_batch separator then line_task line else words_task (words_of separator line)

-- how many files the command reads
unfoldable pub files_read : Verb → ℕ
files_read (verb.Ask q) = 1
files_read verb.List = 1
files_read verb.Table = 1
files_read verb.Normal = 1
files_read verb.Adopt = 1
files_read verb.Link = 2
files_read verb.Salvage = 1
files_read verb.Unknown = 0

unfoldable pub files_of : Task → ℕ
files_of (Mistaken m) = 0
files_of (Run v) = files_read v
files_of (Pile n) = n
files_of (Types m q) = 1

-- it writes a file, which its last word names
unfoldable pub is_writing : Task → Bool
is_writing (Mistaken m) = false
is_writing (Run v) = writes_file v
is_writing (Pile n) = true
is_writing (Types m q) = false

abbrev pub output_word : ℕ → List ℕ → List ℕ
output_word separator line = argument (files_of (task_of separator line) + 1) (words_of separator line)
