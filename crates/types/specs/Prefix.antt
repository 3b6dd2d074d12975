-- Document 01, "Type": the prefix, three bits and a tag. Pointer is the highest bit, so it is set where the prefix is at least as large.
-- Assumes nothing.
use Rattle.std.specs.Prelude.{ℕ, ◌≤◌}
use Rattle.number.specs.Bits.{bits_below}

abbrev pub pointer_bit : ℕ
pointer_bit = 0x80

abbrev pub unique_bit : ℕ
unique_bit = 0x40

abbrev pub reference_bit : ℕ
reference_bit = 0x20

-- the five bits below
abbrev pub tag_of : ℕ → ℕ
tag_of b = bits_below reference_bit b

-- ---- tags that rules between fields name

-- uint32: what size and length arguments are, and a result that is not void
abbrev pub uint32_tag : ℕ
uint32_tag = 6

abbrev pub void_tag : ℕ
void_tag = 13

abbrev pub iid_tag : ℕ
iid_tag = 14

-- reserved with minor 0
abbrev pub astring_tag : ℕ
astring_tag = 15

-- an array's, of which the element's type follows
abbrev pub array_tag : ℕ
array_tag = 20

-- ---- three more strings: utf8string, cstring (24) and a further astring, another type than that of tag 15

abbrev pub utf8string_tag : ℕ
utf8string_tag = 23

abbrev pub further_astring_tag : ℕ
further_astring_tag = 25

abbrev pub StringTag : ℕ → Type 0
StringTag t = (utf8string_tag ≤ t) × (t ≤ further_astring_tag)

-- the minor version that brought them: they are reserved with those before it
abbrev pub strings_minor : ℕ
strings_minor = 2
