-- Document 01, "Marked cases": what the listing program prints of its input, in ASCII but for names, whose bytes stand as they are.
-- Assumes nothing.
use Rattle.std.specs.Prelude.{List, [], ◌∷◌, ◌++◌, ℕ, ◌+◌, length, Err, Ok}
use Rattle.std.proofs.Math.Option.{Option, none, some}
use Rattle.number.specs.Choice.{when◌then◌else◌, ◌<?◌}
use Rattle.reading.specs.Got.{Got, got, bad}
use Rattle.key.specs.Key.{key_space, key_name}
use Rattle.decimal.specs.Digits.{digits_of}
use Rattle.text.specs.Line.{line_of, space, hyphen, newline}
use Rattle.text.specs.Signed.{signed_text}
use Rattle.text.specs.Hex.{hex_of}
use Rattle.reader.specs.Values.{Method, method_name, argument_count, Constant, constant_name, Descriptor, parent_of, methods_of, constants_of, Entry, entry_key, entry_iid, entry_descriptor, parent_index, Typelib, header_of, entries_in}
use Rattle.reader.specs.Reader.{decode}
use Rattle.lookup.specs.declared.Slot.{Slot}
use Rattle.lookup.specs.declared.Slot.TheVariants.{Known, Undetermined}
use Rattle.lookup.specs.declared.Value.{Value}
use Rattle.lookup.specs.declared.Value.TheVariants.{I16, I32, U16, U32}
use Rattle.lookup.specs.Chain.{Chain, of_parent, chain_of}
use Rattle.lookup.specs.Method.{slot_of, total_of}
use Rattle.lookup.specs.Constant.{value_of}
use Rattle.lookup.specs.Question.{slot_as}

-- ---- words

-- `I `, `M ` and `C `: an entry, a method, a constant
abbrev pub entry_word : List ℕ
entry_word = 73 ∷ 32 ∷ []

abbrev pub method_word : List ℕ
method_word = 77 ∷ 32 ∷ []

abbrev pub constant_word : List ℕ
constant_word = 67 ∷ 32 ∷ []

-- `?`, for an unknown slot or total
abbrev pub mark : List ℕ
mark = 63 ∷ []

-- `parent `, with its space
abbrev pub parent_word : List ℕ
parent_word = 112 ∷ 97 ∷ 114 ∷ 101 ∷ 110 ∷ 116 ∷ 32 ∷ []

abbrev pub unresolved_word : List ℕ
unresolved_word = 117 ∷ 110 ∷ 114 ∷ 101 ∷ 115 ∷ 111 ∷ 108 ∷ 118 ∷ 101 ∷ 100 ∷ []

-- `input too long`, with its newline
abbrev pub too_long : List ℕ
too_long = 105 ∷ 110 ∷ 112 ∷ 117 ∷ 116 ∷ 32 ∷ 116 ∷ 111 ∷ 111 ∷ 32 ∷ 108 ∷ 111 ∷ 110 ∷ 103 ∷ 10 ∷ []

-- ---- what stands in a line

-- the default namespace has no bytes
unfoldable pub space_text : List ℕ → List ℕ
space_text [] = hyphen
space_text (b ∷ v) = b ∷ v

-- An unresolved entry has `unresolved` in place of `parent` and its number, which is the parent's index, 0 for none.
unfoldable pub parent_text : Option (Descriptor ℕ) → List ℕ
parent_text none = unresolved_word
parent_text (some d) = parent_word ++ digits_of (parent_index (parent_of d))

-- a slot, or a total of slots
unfoldable pub slot_text : Slot → List ℕ
slot_text (Known s) = digits_of s
slot_text (Undetermined r) = mark

unfoldable pub value_text : Value → List ℕ
value_text (I16 z) = signed_text z
value_text (I32 z) = signed_text z
value_text (U16 n) = digits_of n
value_text (U32 n) = digits_of n

-- ---- lines

-- `I index iid namespace name parent P`, or `unresolved` at its end; an IID has 16 bytes
unfoldable pub entry_line : ℕ → Entry ℕ → List ℕ
entry_line i x =
    ((entry_word ++ digits_of i) ++ (space ++ hex_of 32 (entry_iid x)))
    ++ ((space ++ space_text (key_space (entry_key x))) ++ (space ++ key_name (entry_key x)))
    ++ ((space ++ parent_text (entry_descriptor x)) ++ newline)

-- `M slot name arguments total`: a count, and the total of slots of the interface that is listed
unfoldable pub method_line : Slot → Slot → Method ℕ → List ℕ
method_line slot total m =
    (method_word ++ slot_text slot) ++ (space ++ method_name m) ++ (space ++ digits_of (argument_count m))
    ++ ((space ++ slot_text total) ++ newline)

-- `C name value`
unfoldable pub constant_line : Constant → List ℕ
constant_line c = (constant_word ++ constant_name c) ++ (space ++ value_text (value_of c)) ++ newline

-- ---- the listing

-- the methods from position k on, of an entry with this total whose parents have the chain `above`
unfoldable pub method_lines : Slot → Chain ℕ → ℕ → List (Method ℕ) → List ℕ
method_lines total above k [] = []
method_lines total above k (m ∷ ms) = method_line (slot_as (slot_of above k)) total m ++ method_lines total above (k + 1) ms

unfoldable pub constant_lines : List Constant → List ℕ
constant_lines [] = []
constant_lines (c ∷ cs) = constant_line c ++ constant_lines cs

-- what stands under the line of the entry of index i: its methods, then its constants, by position
unfoldable pub own_lines : List (Entry ℕ) → ℕ → Option (Descriptor ℕ) → List ℕ
own_lines es i none = []
own_lines es i (some d) =
    method_lines (slot_as (total_of (chain_of es i))) (of_parent (chain_of es) (parent_of d)) 0 (methods_of d) ++ constant_lines (constants_of d)

-- the last entries of es, from index i on
unfoldable pub entry_lines : List (Entry ℕ) → ℕ → List (Entry ℕ) → List ℕ
entry_lines es i [] = []
entry_lines es i (x ∷ xs) = entry_line i x ++ (own_lines es i (entry_descriptor x) ++ entry_lines es (i + 1) xs)

-- of a decoded file; the first number is that of its interfaces
unfoldable pub listing_of : Got Typelib → List ℕ
listing_of (bad n q) = line_of (Err (record { no = n; place = q }))
listing_of (got t e) = line_of (Ok (header_of t).count) ++ entry_lines (entries_in t) 1 (entries_in t)

-- of the bytes on standard input
unfoldable pub printed_of : List ℕ → List ℕ
printed_of s = when 65536 <? length s then too_long else listing_of (decode s)
