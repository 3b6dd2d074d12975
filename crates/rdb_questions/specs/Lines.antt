-- The answer to a line about a types.rdb, by its words.
-- Assumes nothing.
use Rattle.std.specs.Prelude.{Bool, List, ◌++◌, ℕ, Err, Ok, Result}
use Rattle.ascii.specs.Ascii.{ascii}
use Rattle.words.specs.declared.NumberError.{NumberError}
use Rattle.words.specs.declared.NumberError.TheVariants.{NotDecimal, TooLarge}
use Rattle.words.specs.Numbers.{number_of}
use Rattle.words.specs.Words.{word_in}
use Rattle.reading.specs.Got.{Got, got, bad}
use Rattle.said.specs.Texts.{refused_line, not_decimal_mistake, too_large_mistake}
use Rattle.said.specs.Saying.{Saying, saying, mistaken, verdict_why}
use Rattle.listed.specs.Text.{shown, closing}
use Rattle.rdb_interface.specs.declared.SetCount.{SetCount}
use Rattle.rdb_file.specs.Visit.{Sound}
use Rattle.rdb_file.specs.File.{read_file, verdict_of}
use Rattle.rdb_parts.specs.declared.Part.{Part}
use Rattle.rdb_parts.specs.declared.Inner.{Inner}
use Rattle.rdb_parts.specs.Parts.{ask_part, ask_inner}
use Rattle.rdb_lines.specs.Rest.{paths_text}
use Rattle.rdb_told.specs.Told.{say_part}
use Rattle.rdb_tasks.specs.declared.Asked.{Asked}
use Rattle.rdb_tasks.specs.declared.Asked.TheVariants as asked
use Rattle.rdb_tasks.specs.Asked.{usage_text}
use Rattle.rdb_said.specs.Sayings.{check_saying, entity_saying, constant_saying}

-- in a batch the paths are one line, however many they are, none too; a refusal is one line anywhere
unfoldable pub paths_answer : Bool → Got Sound → List ℕ → List ℕ
paths_answer in_batch (bad n q) s = refused_line (record { no = n; place = q })
paths_answer in_batch (got x v) s = shown in_batch (paths_text s) ++ closing in_batch

-- list FILE
unfoldable pub paths_saying : Bool → SetCount → List ℕ → Saying
paths_saying in_batch m s = saying (paths_answer in_batch (read_file m s) s) (verdict_why (verdict_of (read_file m s)))

-- a word that is a position; what it is told as
unfoldable pub with_position : List ℕ → Result ℕ NumberError → (ℕ → Saying) → Saying
with_position what (Ok i) ask = ask i
with_position what (Err NotDecimal) ask = mistaken (not_decimal_mistake what)
with_position what (Err TooLarge) ask = mistaken (too_large_mistake what)

-- of a part
abbrev pub the_position : List ℕ
the_position = ascii "the position"

-- in a list inside it
abbrev pub the_second : List ℕ
the_second = ascii "the second position"

-- part FILE PATH WHICH I; a mistake in a word comes before the file's refusal, and of two the first
unfoldable pub part_saying : SetCount → List ℕ → List ℕ → Part → List ℕ → Saying
part_saying m s path which i = with_position the_position (number_of i) (λ i. say_part s (ask_part m (read_file m s) s path which i))

-- part FILE PATH WHICH I J, where the first position is read
unfoldable pub second_saying : SetCount → List ℕ → List ℕ → Inner → ℕ → List ℕ → Saying
second_saying m s path which i j = with_position the_second (number_of j) (λ j. say_part s (ask_inner m (read_file m s) s path which i j))

unfoldable pub inner_saying : SetCount → List ℕ → List ℕ → Inner → List ℕ → List ℕ → Saying
inner_saying m s path which i j = with_position the_position (number_of i) (λ i. second_saying m s path which i j)

-- what is said of the file s, read as m says, asked with the words of the line: the one at 2 is the file's name, at 3 a path, at 4 which part, at 5 and 6 positions
unfoldable pub types_saying : Bool → SetCount → Asked → List ℕ → List (List ℕ) → Saying
types_saying in_batch m asked.Check s ws = check_saying m s
types_saying in_batch m asked.List s ws = paths_saying in_batch m s
types_saying in_batch m asked.Entity s ws = entity_saying m s (word_in 3 ws)
types_saying in_batch m asked.Constant s ws = constant_saying m s (word_in 3 ws)
types_saying in_batch m (asked.Part p) s ws = part_saying m s (word_in 3 ws) p (word_in 5 ws)
types_saying in_batch m (asked.Inner p) s ws = inner_saying m s (word_in 3 ws) p (word_in 5 ws) (word_in 6 ws)
types_saying in_batch m asked.Which s ws = mistaken (usage_text m asked.Which)
types_saying in_batch m asked.Unknown s ws = mistaken (usage_text m asked.Unknown)
