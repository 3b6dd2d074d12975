-- What is left to print at a cursor, in the listing of an accepted file or in the table of an interface.
-- Assumes nothing.
use Rattle.std.specs.Prelude.{◌≡◌, Bool, true, false, ◌⊎◌, List, [], ◌++◌, ℕ, ◌+◌, ◌-◌, ◌*◌, ◌≤◌, ◌<◌, length, drop}
use Rattle.std.proofs.Math.Option.{Option}
use Rattle.number.specs.Limits.{own_limit}
use Rattle.reader.specs.declared.Layout.{Layout}
use Rattle.reader.specs.Values.{Method, Constant, Entry, parent_index}
use Rattle.reader.specs.Records.{Run, ShowsField}
use Rattle.reader.specs.Rules.{ParentRule}
use Rattle.reader.specs.Layout.{LaidOut}
use Rattle.lookup.specs.declared.Slot.{Slot}
use Rattle.lookup.specs.Chain.{Chain}
use Rattle.lookup.specs.Method.{slot_of}
use Rattle.lookup.specs.Question.{slot_as, slot_number}
use Rattle.lines.specs.declared.Cursor.{Cursor}
use Rattle.slots.specs.Cursor.{RowsLeft, row_turns}
use Rattle.lines.specs.declared.Cursor.TheVariants.{Done, AtEntry, AtMethods, AtConstants, AtTable}
use Rattle.lines.specs.declared.Piece.{Piece}
use Rattle.lines.specs.declared.Filled.{Filled}
use Rattle.lines.specs.declared.Started.{Started}
use Rattle.printed.specs.Listing.{method_lines, constant_lines, entry_lines}
use Rattle.text.specs.Writing.{Wrote}
use Rattle.printed.specs.Writing.{line_room, NamedMethod, NamedConstant}

-- of n entries, the index `up` is that of the parent p, 0 being none
abbrev pub ParentAt : ℕ → ℕ → Option ℕ → Type 0
ParentAt n up p = (parent_index p ≡ up) × ParentRule n p

-- ---- what is left

-- the entries from i on, counted from 0
pub record EntriesLeft (s : List ℕ) (l : Layout) (i : ℕ) (text : List ℕ) : Type 0 where
  pub entries : List (Entry ℕ)
  pub laid : LaidOut s l entries
  pub few : i ≤ l.count
  pub whole : text ≡ entry_lines entries (i + 1) (drop i entries)

-- k constants of entry i, which stand from p on in the pool, and the entries after it
pub record ConstantsLeft (s : List ℕ) (l : Layout) (i k p : ℕ) (text : List ℕ) : Type 0 where
  pub constants : List Constant
  pub count : k ≡ length constants
  pub few : k ≤ own_limit
  pub end : ℕ
  pub run : Run (NamedConstant (drop l.pool s)) p constants end
  pub rest : List ℕ
  pub after : EntriesLeft s l (i + 1) rest
  pub whole : text ≡ constant_lines constants ++ rest

-- k methods of entry i, which stand from p on, the first with this slot, each line with this total; the constants, whose count stands after them; and the entries after it
pub record MethodsLeft (s : List ℕ) (l : Layout) (i k p : ℕ) (slot total : Slot) (text : List ℕ) : Type 0 where
  pub methods : List (Method ℕ)
  pub count : k ≡ length methods
  pub few : k ≤ own_limit
  pub end : ℕ
  pub run : Run (NamedMethod (drop l.pool s)) p methods end
  pub above : Chain ℕ
  pub position : ℕ
  pub slotted : slot ≡ slot_as (slot_of above position)
  pub low : slot_number slot + k ≤ 1049600
  pub constants : ℕ
  pub counted : ShowsField 2 (drop l.pool s) end constants
  pub rest : List ℕ
  pub after : ConstantsLeft s l i constants (end + 2) rest
  pub whole : text ≡ method_lines total above position methods ++ rest

-- the text that is left to print of the file s, laid out as l says
abbrev pub Left : List ℕ → Layout → Cursor → List ℕ → Type 0
Left s l Done text = text ≡ []
Left s l (AtEntry i) text = EntriesLeft s l i text
Left s l (AtMethods m) text = MethodsLeft s l m.entry m.left m.at m.slot m.total text
Left s l (AtConstants k) text = ConstantsLeft s l k.entry k.left k.at text
Left s l (AtTable t) text = RowsLeft s l t text

-- the cursor is one of this file
pub record Begun (s : List ℕ) (l : Layout) (c : Cursor) : Type 0 where
  pub inside : l.pool ≤ length s
  pub text : List ℕ
  pub left : Left s l c text

-- ---- going on

-- of the text, a first part was written from `at` on, and the rest is left at the cursor c
pub record PartWritten (s : List ℕ) (l : Layout) (before : List ℕ) (at next : ℕ) (after : List ℕ) (c : Cursor) (text : List ℕ) : Type 0 where
  pub bytes : List ℕ
  pub rest : List ℕ
  pub split : text ≡ bytes ++ rest
  pub left : Left s l c rest
  pub wrote : Wrote before at bytes next after

-- nothing is left
unfoldable pub is_done : Cursor → Bool
is_done Done = true
is_done (AtEntry i) = false
is_done (AtMethods m) = false
is_done (AtConstants k) = false
is_done (AtTable t) = false

-- no more pieces than this are left, of n entries: no entry has more than 1,024 methods and 1,024 constants
unfoldable pub turns : ℕ → Cursor → ℕ
turns n Done = 0
turns n (AtEntry i) = (n - i) * 4096 + 1
turns n (AtMethods m) = (n - (m.entry + 1)) * 4096 + 2050 + m.left
turns n (AtConstants k) = (n - (k.entry + 1)) * 4096 + 2 + k.left
turns n (AtTable t) = row_turns t

-- at c nothing is left, or at d fewer pieces are left than at c
abbrev pub Onward : ℕ → Cursor → Cursor → Type 0
Onward n c d = (is_done c ≡ true) ⊎ (turns n d < turns n c)

-- one piece was written
pub record Moved (s : List ℕ) (l : Layout) (c : Cursor) (before : List ℕ) (at : ℕ) (r : Piece) (after : List ℕ) : Type 0 where
  pub each : (text : List ℕ) → Left s l c text → PartWritten s l before at r.at after r.cursor text
  pub onward : Onward l.count c r.cursor
  pub room : r.at ≤ at + line_room

-- a buffer was filled
pub record Filling (s : List ℕ) (l : Layout) (c : Cursor) (before : List ℕ) (r : Filled) (after : List ℕ) : Type 0 where
  pub each : (text : List ℕ) → Left s l c text → PartWritten s l before 0 r.length after r.cursor text
  pub onward : Onward l.count c r.cursor
  pub inside : r.length ≤ length after

-- a first line of n bytes that is all of its text
abbrev pub only_line : ℕ → Started
only_line n = record { length = n; layout = record { count = 0; directory = 0; pool = 0 }; cursor = Done }

-- of a text that is printed of the file s, the first line was written, and the rest is left
pub record Starting (s text before : List ℕ) (r : Started) (after : List ℕ) : Type 0 where
  pub part : PartWritten s r.layout before 0 r.length after r.cursor text
  pub inside : r.length ≤ 64
  pub pool : r.layout.pool ≤ length s

-- `done` and what is left at the cursor c are the text
pub record Printing (s text : List ℕ) (l : Layout) (c : Cursor) (done : List ℕ) : Type 0 where
  pub begun : Begun s l c
  pub split : text ≡ done ++ begun.text
