-- The bytes of a file, by its name. What the system did is no fact of a program: three predicates here are shut, and mean what they say by where they come from. Their laws (`SystemCalls`) are for the proofs of `open` and
-- `read_some`, which call the system, and of `standard_input`, which is open from the start; tests/sealed fails where another file names them. So who requires one of them, or promises one, has it from there.
-- Assumes nothing.
use Rattle.std.specs.Prelude.{◌≡◌, Bool, List, [], ℕ, ◌≤◌, ◌<◌, ℤ, pos, length, take, Err, Ok, Result}
use Rattle.std.specs.Fd.{file_raw_fd}
use Rattle.ascii.specs.Ascii.{ascii}
use Rattle.key.specs.Word.{same_word}
use Rattle.input.specs.declared.Source.{Source}
use Rattle.input.specs.declared.Source.TheVariants as source
use Rattle.input.specs.declared.Begun.{Begun}
use Rattle.input.specs.declared.Begun.TheVariants as begun
pub mod SystemCalls

-- the name of standard input
abbrev pub is_input : List ℕ → Bool
is_input name = same_word name (ascii "-")

-- the number of a descriptor; that of standard input is 0
abbrev pub number_of : Source → ℤ
number_of (source.Input i) = pos 0
number_of (source.File f) = file_raw_fd f

-- the descriptor is open for the file of this name, and stands behind these bytes, its first
pub StandsBehind : List ℕ → ℤ → List ℕ → Type 0
StandsBehind name fd bytes = Unit {0}

-- the file of this name ended behind these bytes
pub EndedBehind : List ℕ → List ℕ → Type 0
EndedBehind name bytes = Unit {0}

-- the file of this name cannot be read, for this reason by errno's number
pub Unread : List ℕ → ℤ → Type 0
Unread name e = Unit {0}

-- the first bytes of the file of this name: all of them, or as many as there was room for
pub record FirstBytes (name : List ℕ) (room : ℕ) (bytes : List ℕ) : Type 0 where
  pub within : length bytes ≤ room
  pub came : (fd : ℤ) × StandsBehind name fd bytes
  pub whole : length bytes < room → EndedBehind name bytes

-- ---- what the functions promise

abbrev pub Opens : List ℕ → Result Source ℤ → Type 0
Opens name (Ok s) = StandsBehind name (number_of s) []
Opens name (Err e) = Unread name e

-- one call of `read`, with room behind the first `from` bytes: where it gave none, the file ended
abbrev pub Goes : List ℕ → ℤ → ℕ → Result ℕ ℤ → List ℕ → Type 0
Goes name fd from (Ok end) buf = StandsBehind name fd (take end buf) × (end ≡ from → EndedBehind name (take end buf))
Goes name fd from (Err e) buf = Unread name e

-- calls of `read` until the file ended or the buffer was full
abbrev pub Comes : List ℕ → ℤ → Result ℕ ℤ → List ℕ → Type 0
Comes name fd (Ok end) buf = StandsBehind name fd (take end buf) × (end < length buf → EndedBehind name (take end buf))
Comes name fd (Err e) buf = Unread name e

-- the file's first bytes are at the front of the buffer
abbrev pub ReadIn : List ℕ → Result ℕ ℤ → List ℕ → Type 0
ReadIn name (Ok n) buf = (n ≤ length buf) × FirstBytes name (length buf) (take n buf)
ReadIn name (Err e) buf = Unread name e

-- all of the file is, or it fills the buffer and may go on
abbrev pub Begins : List ℕ → Result Begun ℤ → List ℕ → Type 0
Begins name (Ok (begun.Whole n)) buf = (n < length buf) × FirstBytes name (length buf) (take n buf)
Begins name (Ok (begun.Full s)) buf = StandsBehind name (number_of s) buf
Begins name (Err e) buf = Unread name e
