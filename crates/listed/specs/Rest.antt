-- What is left of a listing or of a table, and what its first line and each buffer after it give.
-- Assumes nothing.
use Rattle.std.specs.Prelude.{◌≡◌, Bool, true, false, ◌⊎◌, List, [], ◌++◌, ℕ, ◌+◌, ◌≤◌, ◌<◌, length}
use Rattle.std.proofs.lemmas.List.Edits.{sets}
use Rattle.number.specs.Choice.{when◌then◌else◌}
use Rattle.reader.specs.declared.Layout.{Layout}
use Rattle.text.specs.Line.{newline}
use Rattle.said.specs.declared.Said.{Said}
use Rattle.said.specs.Saying.{answer_room, Saying}
use Rattle.lines.specs.declared.Cursor.{Cursor}
use Rattle.lines.specs.Cursor.{Left, is_done, turns}
use Rattle.listed.specs.declared.Next.{Next}
use Rattle.listed.specs.declared.Next.TheVariants.{Over, Closing, At}
use Rattle.listed.specs.declared.Rest.{Rest}
use Rattle.listed.specs.declared.Opened.{Opened}
use Rattle.listed.specs.declared.More.{More}
use Rattle.listed.specs.Text.{shown, closing}

-- at a cursor that is not done: its lines as they are answered, and what ends them
pub record Going (in_batch : Bool) (s : List ℕ) (l : Layout) (c : Cursor) (text : List ℕ) : Type 0 where
  pub going : is_done c ≡ false
  pub inside : l.pool ≤ length s
  pub lines : List ℕ
  pub left : Left s l c lines
  pub whole : text ≡ shown in_batch lines ++ closing in_batch

-- the text that is left of the listing, or of the table, of the file s
abbrev pub LeftAt : Bool → List ℕ → Layout → Next → List ℕ → Type 0
LeftAt in_batch s l Over text = text ≡ []
LeftAt in_batch s l Closing text = text ≡ newline
LeftAt in_batch s l (At c) text = Going in_batch s l c text

abbrev pub LeftIn : Bool → List ℕ → Rest → List ℕ → Type 0
LeftIn in_batch s r text = LeftAt in_batch s r.layout r.next text

unfoldable pub nothing_next : Next → Bool
nothing_next Over = true
nothing_next Closing = false
nothing_next (At c) = false

unfoldable pub is_over : Rest → Bool
is_over r = nothing_next r.next

-- nothing is left
abbrev pub no_rest : Rest
no_rest = record { layout = record { count = 0; directory = 0; pool = 0 }; next = Over }

-- after the last line
unfoldable pub after_lines : Bool → Next
after_lines true = Closing
after_lines false = Over

-- what is left at a cursor
unfoldable pub rest_of : Layout → Bool → Cursor → Rest
rest_of l in_batch c = record { layout = l; next = when is_done c then after_lines in_batch else At c }

-- no more buffers than this are left
unfoldable pub buffers_at : ℕ → Next → ℕ
buffers_at n Over = 0
buffers_at n Closing = 1
buffers_at n (At c) = 2 + turns n c

abbrev pub buffers : Rest → ℕ
buffers r = buffers_at r.layout.count r.next

-- the answer x begins at the front of the buffer, nothing else was changed, and of its text what Left says is left
pub record Begins (Left : List ℕ → Type 0) (x : Saying) (before : List ℕ) (r : Said) (after : List ℕ) : Type 0 where
  pub bytes : List ℕ
  pub rest : List ℕ
  pub split : x.text ≡ bytes ++ rest
  pub long : r.length ≡ length bytes
  pub fits : r.length ≤ answer_room
  pub why : r.why ≡ x.why
  pub stored : after ≡ sets before 0 bytes
  pub left : Left rest

-- of a text, the first n bytes are at the front of the buffer, nothing else was changed, and what Left says is left
pub record Gives (Left : List ℕ → Type 0) (text before : List ℕ) (n : ℕ) (after : List ℕ) : Type 0 where
  pub bytes : List ℕ
  pub rest : List ℕ
  pub split : text ≡ bytes ++ rest
  pub long : n ≡ length bytes
  pub stored : after ≡ sets before 0 bytes
  pub left : Left rest

-- the answer x begins with the first line, and the rest is left
abbrev pub Opens : Bool → Saying → List ℕ → List ℕ → Opened → List ℕ → Type 0
Opens in_batch x s before r after = Begins (λ rest. LeftIn in_batch s r.rest rest) x before r.said after

-- a buffer was filled: so it is of any text that is left, and fewer are left where one was
pub record Filled (in_batch : Bool) (s : List ℕ) (x : Rest) (before : List ℕ) (r : More) (after : List ℕ) : Type 0 where
  pub each : (text : List ℕ) → LeftIn in_batch s x text → Gives (λ rest. LeftIn in_batch s r.rest rest) text before r.length after
  pub fewer : (is_over x ≡ true) ⊎ (buffers r.rest < buffers x)
  pub inside : r.length ≤ length after
