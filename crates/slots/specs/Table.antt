-- Request #108: the whole table of an interface, a line for each slot in number order, the inherited ones first as they lie.
-- Assumes nothing.
use Rattle.std.specs.Prelude.{List, [], ◌∷◌, ◌++◌, ℕ, ◌+◌, ◌-◌}
use Rattle.number.specs.Choice.{when◌then◌else◌}
use Rattle.key.specs.Key.{Key, key_space, key_name}
use Rattle.decimal.specs.Digits.{digits_of}
use Rattle.text.specs.Line.{space, newline}
use Rattle.reader.specs.Values.{Method, method_flags, method_name, argument_count, methods_of, Entry, keys_in}
use Rattle.lookup.specs.declared.Kind.TheVariants.{Getter, Setter}
use Rattle.lookup.specs.Chain.{Level, level, Ending, root, unresolved, Chain, chain, chain_of}
use Rattle.lookup.specs.Method.{SlotOf, slot_of, is_kind}
use Rattle.lookup.specs.Question.{slot_as}
use Rattle.printed.specs.Listing.{space_text, slot_text}
use Rattle.said.specs.Texts.{undetermined, numbered}

-- ---- words

-- `getter`, `setter` and `plain`
abbrev pub getter_word : List ℕ
getter_word = 103 ∷ 101 ∷ 116 ∷ 116 ∷ 101 ∷ 114 ∷ []

abbrev pub setter_word : List ℕ
setter_word = 115 ∷ 101 ∷ 116 ∷ 116 ∷ 101 ∷ 114 ∷ []

abbrev pub plain_word : List ℕ
plain_word = 112 ∷ 108 ∷ 97 ∷ 105 ∷ 110 ∷ []

-- the kind of a method with these flags
unfoldable pub kind_text : ℕ → List ℕ
kind_text f = when is_kind Getter f then getter_word else when is_kind Setter f then setter_word else plain_word

-- ---- rows

-- a method: its slot, the index of its owner, its position there from 0, and what it is
pub data Row : Type 0 where
  row : SlotOf ℕ → ℕ → ℕ → Method ℕ → Row

-- the methods of an owner whose parents have the chain `above`, from position p on
unfoldable pub own_rows : ℕ → Chain ℕ → ℕ → List (Method ℕ) → List Row
own_rows owner above p [] = []
own_rows owner above p (m ∷ ms) = row (slot_of above p) owner p m ∷ own_rows owner above (p + 1) ms

-- those of one entry of a chain
unfoldable pub level_rows : Level ℕ → Chain ℕ → List Row
level_rows (level owner d) above = own_rows owner above 0 (methods_of d)

-- the inherited ones first, own ones last
unfoldable pub rows_on : List (Level ℕ) → Ending ℕ → List Row
rows_on [] end = []
rows_on (x ∷ xs) end = rows_on xs end ++ level_rows x (chain xs end)

unfoldable pub rows_of : Chain ℕ → List Row
rows_of (chain xs end) = rows_on xs end

-- ---- lines

-- ` NAMESPACE NAME` of an owner, `-` for the default namespace
unfoldable pub owner_text : Key → List ℕ
owner_text k = (space ++ space_text (key_space k)) ++ (space ++ key_name k)

-- ` KIND NAME ARGUMENTS`, with the newline
unfoldable pub call_text : Method ℕ → List ℕ
call_text m = ((space ++ kind_text (method_flags m)) ++ (space ++ method_name m)) ++ ((space ++ digits_of (argument_count m)) ++ newline)

-- `SLOT OWNER-NAMESPACE OWNER-NAME KIND NAME ARGUMENTS`, `?` for a slot that is not known
unfoldable pub row_line : List (Entry ℕ) → Row → List ℕ
row_line es (row slot owner p m) = (slot_text (slot_as slot) ++ owner_text (keys_in es (owner - 1))) ++ call_text m

unfoldable pub row_lines : List (Entry ℕ) → List Row → List ℕ
row_lines es [] = []
row_lines es (x ∷ xs) = row_line es x ++ row_lines es xs

-- on an incomplete chain `undetermined INDEX` stands before the lines that are known
unfoldable pub head_line : Ending ℕ → List ℕ
head_line root = []
head_line (unresolved r) = numbered undetermined r

unfoldable pub chain_text : List (Entry ℕ) → Chain ℕ → List ℕ
chain_text es (chain xs end) = head_line end ++ row_lines es (rows_on xs end)

-- the table of the interface of index i
unfoldable pub table_of : List (Entry ℕ) → ℕ → List ℕ
table_of es i = chain_text es (chain_of es i)
