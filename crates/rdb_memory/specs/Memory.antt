-- What the check remembers of texts: by offset and class, which Len-Strings were read well. A field that names such a text is good wherever it stands.
-- Assumes nothing.
use Rattle.reading.specs.declared.Refusal.{Refusal}
use Rattle.std.specs.Prelude.{◌≡◌, true, List, ℕ, ◌+◌, ◌*◌, ◌≤◌, length, get_or, Result}
use Rattle.number.specs.Limits.{file_limit}
use Rattle.reading.specs.Got.{Got, step_of, Accepted}
use Rattle.rdb_runs.specs.Runs.{run_count, Runs}
use Rattle.rdb_seen.specs.Marks.{marked}
use Rattle.rdb_text.specs.declared.Class.{Class}
use Rattle.rdb_text.specs.declared.Class.TheVariants.{Ascii, Utf8}
use Rattle.rdb_text.specs.Text.{read_len}

-- cells of two marks for each offset, the end of the file among them
abbrev pub mark_cells : ℕ
mark_cells = 65537

-- the cells: the tables of runs, the number of bytes that were judged one by one, and marks
abbrev pub spent_cell : ℕ
spent_cell = run_count

abbrev pub first_mark : ℕ
first_mark = 32 * (spent_cell + 1)

abbrev pub text_cells : ℕ
text_cells = spent_cell + 1 + mark_cells

unfoldable pub text_mark : Class → ℕ → ℕ
text_mark Ascii p = first_mark + 2 * p
text_mark Utf8 p = first_mark + 2 * p + 1

-- once as many bytes were judged, the tables of runs judge
abbrev pub judge_limit : ℕ
judge_limit = 4 * file_limit

-- marks from here on are the caller's
abbrev pub other_marks : ℕ
other_marks = 32 * text_cells

-- the Len-String at p reads well, whatever names it
abbrev pub Good : Class → List ℕ → ℕ → Type 0
Good c s p = (place : ℕ) → Accepted (read_len c s place p)

-- the tables stand for the file where they are used, and each mark for what was read
pub record Remembers (s memory : List ℕ) : Type 0 where
  pub room : text_cells ≤ length memory
  pub runs : judge_limit ≤ get_or memory spent_cell 0 → Runs s memory 0
  pub good : (c : Class) (p : ℕ) → p ≤ file_limit → marked memory (text_mark c p) ≡ true → Good c s p

-- a memory after its tables were filled
pub record Filled (s before after : List ℕ) : Type 0 where
  pub runs : Runs s after 0
  pub cells : (j : ℕ) → run_count ≤ j → get_or after j 0 ≡ get_or before j 0
  pub size : length after ≡ length before

-- a memory after reading: it stands for what was read, and the caller's marks are as they were
pub record Learnt (s before after : List ℕ) : Type 0 where
  pub kept : Remembers s after
  pub others : (i : ℕ) → other_marks ≤ i → marked after i ≡ marked before i

-- a reader's step is what the definition gives, and the memory after it stands for what was read
pub record Judged {X : Type 0} (s before after : List ℕ) (r : Result ℕ Refusal) (g : Got X) : Type 0 where
  pub step : r ≡ step_of g
  pub memory : Learnt s before after
