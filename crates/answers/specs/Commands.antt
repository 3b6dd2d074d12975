-- What each command says. A mistake in a word comes before the file's refusal, since such a line is no question; of several the leftmost word's is given.
-- Assumes nothing.
use Rattle.std.specs.Prelude.{List, [], ◌∷◌, ℕ, Err, Ok, Result}
use Rattle.number.specs.Choice.{when◌then◌else◌}
use Rattle.key.specs.Word.{same_word}
use Rattle.words.specs.declared.NumberError.{NumberError}
use Rattle.words.specs.declared.NumberError.TheVariants.{NotDecimal, TooLarge}
use Rattle.words.specs.declared.HexError.{HexError}
use Rattle.words.specs.declared.HexError.TheVariants.{OtherLength, NotHex}
use Rattle.words.specs.Numbers.{number_of}
use Rattle.words.specs.Digits.{hex_of, bytes_of}
use Rattle.guids.specs.Forms.{plain_of}
use Rattle.reader.specs.Reader.{decode, check_of}
use Rattle.lookup.specs.declared.Kind.{Kind}
use Rattle.lookup.specs.declared.Kind.TheVariants.{Getter, Setter, Plain}
use Rattle.lookup.specs.Question.{ask_iid, ask_looks, ask_key, ask_method, ask_slot, ask_constant}
use Rattle.text.specs.Line.{hyphen}
use Rattle.said.specs.Texts.{the_index, the_slot, not_decimal_mistake, too_large_mistake}
use Rattle.sayings.specs.Texts.{iid_mistake, kind_mistake}
use Rattle.said.specs.Saying.{Saying, mistaken, say_verdict}
use Rattle.sayings.specs.Sayings.{say_interface, say_counted, say_method, say_constant}

-- ---- words: each is what the command asks with, or a mistake

-- the words `getter`, `setter` and `plain`
abbrev pub getter : List ℕ
getter = 103 ∷ 101 ∷ 116 ∷ 116 ∷ 101 ∷ 114 ∷ []

abbrev pub setter : List ℕ
setter = 115 ∷ 101 ∷ 116 ∷ 116 ∷ 101 ∷ 114 ∷ []

abbrev pub plain : List ℕ
plain = 112 ∷ 108 ∷ 97 ∷ 105 ∷ 110 ∷ []

-- a word that is an index
unfoldable pub with_index : Result ℕ NumberError → (ℕ → Saying) → Saying
with_index (Ok i) ask = ask i
with_index (Err NotDecimal) ask = mistaken (not_decimal_mistake the_index)
with_index (Err TooLarge) ask = mistaken (too_large_mistake the_index)

-- a word that is a slot
unfoldable pub with_slot : Result ℕ NumberError → (ℕ → Saying) → Saying
with_slot (Ok k) ask = ask k
with_slot (Err NotDecimal) ask = mistaken (not_decimal_mistake the_slot)
with_slot (Err TooLarge) ask = mistaken (too_large_mistake the_slot)

-- a word that is a kind
unfoldable pub with_kind : List ℕ → (Kind → Saying) → Saying
with_kind w ask =
    when same_word w getter then ask Getter else
    when same_word w setter then ask Setter else
    when same_word w plain then ask Plain else
    mistaken kind_mistake

-- a word of hexadecimal digits in pairs; with another number of them than 32 it is a question, which is malformed
unfoldable pub with_hex : Result Unit HexError → Saying → Saying
with_hex (Ok tt) asked = asked
with_hex (Err OtherLength) asked = asked
with_hex (Err NotHex) asked = mistaken iid_mistake

-- a word that is a namespace: `-` is the default, which has no bytes
unfoldable pub space_of : List ℕ → List ℕ
space_of w = when same_word w hyphen then [] else w

-- ---- commands, whose first word names a file; s has its bytes

-- check FILE
unfoldable pub check_saying : List ℕ → Saying
check_saying s = say_verdict (check_of s)

-- iid FILE HEX, where the digits stand alone
unfoldable pub digits_saying : List ℕ → List ℕ → Saying
digits_saying s hex = with_hex (hex_of hex) (say_interface (ask_iid (decode s) (bytes_of hex)))

-- iid FILE HEX, also with hyphens and in braces
unfoldable pub iid_saying : List ℕ → List ℕ → Saying
iid_saying s hex = digits_saying s (plain_of hex)

-- looks FILE HEX, with the same words
unfoldable pub counted_saying : List ℕ → List ℕ → Saying
counted_saying s hex = with_hex (hex_of hex) (say_counted (ask_looks (decode s) (bytes_of hex)))

unfoldable pub looks_saying : List ℕ → List ℕ → Saying
looks_saying s hex = counted_saying s (plain_of hex)

-- key FILE NAMESPACE NAME
unfoldable pub key_saying : List ℕ → List ℕ → List ℕ → Saying
key_saying s space name = say_interface (ask_key (decode s) (space_of space) name)

-- method FILE INDEX NAME KIND
unfoldable pub method_saying : List ℕ → List ℕ → List ℕ → List ℕ → Saying
method_saying s index name kind = with_index (number_of index) (λ i. with_kind kind (λ k. say_method (ask_method (decode s) i name k)))

-- slot FILE INDEX SLOT
unfoldable pub slot_saying : List ℕ → List ℕ → List ℕ → Saying
slot_saying s index slot = with_index (number_of index) (λ i. with_slot (number_of slot) (λ k. say_method (ask_slot (decode s) i k)))

-- const FILE INDEX NAME
unfoldable pub constant_saying : List ℕ → List ℕ → List ℕ → Saying
constant_saying s index name = with_index (number_of index) (λ i. say_constant (ask_constant (decode s) i name))
