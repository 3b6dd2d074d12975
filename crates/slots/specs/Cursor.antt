-- What is left of a table at a cursor.
-- Assumes nothing.
use Rattle.std.specs.Prelude.{◌≡◌, Bool, false, List, [], ◌∷◌, ◌++◌, ℕ, zero, suc, ◌+◌, ◌*◌, ◌≤◌, ◌<◌, length, drop}
use Rattle.number.specs.Choice.{when◌then◌else◌, ◌=?◌}
use Rattle.number.specs.Limits.{own_limit}
use Rattle.reader.specs.declared.Layout.{Layout}
use Rattle.reader.specs.Values.{Method, Entry}
use Rattle.reader.specs.Layout.{LaidOut, Rows}
use Rattle.lookup.specs.Chain.{Chain, chain, levels, ending, chain_of}
use Rattle.lookup.specs.Method.{slot_of, total_of}
use Rattle.lookup.specs.Question.{slot_as, slot_number}
use Rattle.lookup.specs.Holding.{NamedMethod}
use Rattle.text.specs.Writing.{Wrote}
use Rattle.printed.specs.Writing.{line_room}
use Rattle.slots.specs.declared.TableAt.{TableAt}
use Rattle.slots.specs.declared.Piece.{Piece}
use Rattle.slots.specs.Table.{Row, own_rows, level_rows, rows_of, row_lines}

-- a chain from its n-th entry on, counted from 0
unfoldable pub higher : ℕ → Chain ℕ → Chain ℕ
higher n c = chain (drop n (levels c)) (ending c)

-- the methods of the first entry of a chain
unfoldable pub first_rows : Chain ℕ → List Row
first_rows (chain [] end) = []
first_rows (chain (x ∷ xs) end) = level_rows x (chain xs end)

-- those of its first n entries, the highest first
unfoldable pub rows_below : ℕ → Chain ℕ → List Row
rows_below zero c = []
rows_below (suc n) c = first_rows (higher n c) ++ rows_below n c

-- n steps lead up from the entry of index i to that of index j
pub record Reached (s : List ℕ) (l : Layout) (i n j : ℕ) : Type 0 where
  pub from : 1 ≤ j
  pub within : j ≤ l.count
  pub same : (es : List (Entry ℕ)) → LaidOut s l es → chain_of es j ≡ higher n (chain_of es i)

-- the text that is left: the methods that are left of the owner, and those of the entries below it, down to the asked one
pub record RowsLeft (s : List ℕ) (l : Layout) (t : TableAt) (text : List ℕ) : Type 0 where
  pub entries : List (Entry ℕ)
  pub laid : LaidOut s l entries
  pub from : 1 ≤ t.asked
  pub within : t.asked ≤ l.count
  pub owned : (1 ≤ t.owner) × (t.owner ≤ l.count)
  pub methods : List (Method ℕ)
  pub end : ℕ
  pub run : Rows (NamedMethod (drop l.pool s)) t.left t.at methods end
  pub few : t.left ≤ own_limit
  pub above : Chain ℕ
  pub position : ℕ
  pub slotted : t.slot ≡ slot_as (slot_of above position)
  pub low : slot_number t.slot + t.left ≤ 1049600
  pub steps : t.steps ≤ length (levels (chain_of entries t.asked))
  pub whole : text ≡ row_lines entries (own_rows t.owner above position methods ++ rows_below t.steps (chain_of entries t.asked))

-- nothing is left
unfoldable pub no_rows : TableAt → Bool
no_rows t = when t.left =? 0 then t.steps =? 0 else false

-- no more pieces than this are left
unfoldable pub row_turns : TableAt → ℕ
row_turns t = t.steps * (own_limit + 1) + t.left + 1

-- of the text, a first part was written from `at` on, and the rest is left
pub record RowWritten (s : List ℕ) (l : Layout) (before : List ℕ) (at : ℕ) (r : Piece) (after text : List ℕ) : Type 0 where
  pub bytes : List ℕ
  pub rest : List ℕ
  pub split : text ≡ bytes ++ rest
  pub left : RowsLeft s l r.table rest
  pub wrote : Wrote before at bytes r.at after

-- one piece was written
pub record Stepped (s : List ℕ) (l : Layout) (t : TableAt) (before : List ℕ) (at : ℕ) (r : Piece) (after : List ℕ) : Type 0 where
  pub each : (text : List ℕ) → RowsLeft s l t text → RowWritten s l before at r after text
  pub fewer : row_turns r.table < row_turns t
  pub room : r.at ≤ at + line_room

-- the table of the entry of index i, without `undetermined INDEX`; the slot is the total
pub record Begins (s : List ℕ) (l : Layout) (i : ℕ) (t : TableAt) : Type 0 where
  pub each : (es : List (Entry ℕ)) → LaidOut s l es → RowsLeft s l t (row_lines es (rows_of (chain_of es i)))
  pub total : (es : List (Entry ℕ)) → LaidOut s l es → t.slot ≡ slot_as (total_of (chain_of es i))
