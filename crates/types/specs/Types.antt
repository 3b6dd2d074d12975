-- Document 01, "Type": a prefix, and what its tag says follows.
-- Assumes nothing.
use Rattle.std.specs.Prelude.{Bool, true, false, List, ℕ, zero, suc, ◌+◌}
use Rattle.number.specs.Choice.{when◌then◌else◌, ◌<?◌, ◌≤?◌, ◌=?◌}
use Rattle.reading.specs.Got.{Got, got, bad, next, byte, field}
use Rattle.reading.specs.declared.Context.{Context}
use Rattle.types.specs.Prefix.{pointer_bit, reference_bit, tag_of, astring_tag, further_astring_tag, strings_minor, array_tag}
use Rattle.types.specs.declared.Class.{Class}
use Rattle.types.specs.declared.Class.TheVariants.{Reserved, Plain, Text, Interface, InterfaceIs, Array, Sized}

-- A type whose references to interfaces are of kind R: an index where a file is read, a key in its meaning.
-- The first number of each is the prefix.
pub data Ty (R : Type 0) : Type 0 where
  -- tags 0 to 17 and 23 to 25
  simple : ℕ → Ty R
  -- tag 18
  interface : ℕ → R → Ty R
  -- tag 19: an argument number
  interface_is : ℕ → ℕ → Ty R
  -- tag 20: the argument numbers of size and length, and the element's type
  array : ℕ → ℕ → ℕ → Ty R → Ty R
  -- tags 21 and 22: the argument numbers of size and length
  sized : ℕ → ℕ → ℕ → Ty R
  deriving Discrete as Ty-discrete

unfoldable pub prefix : {R : Type 0} → Ty R → ℕ
prefix (simple b) = b
prefix (interface b i) = b
prefix (interface_is b a) = b
prefix (array b x y t) = b
prefix (sized b x y) = b

-- what a tag stands for under a minor version: 26 to 31 are reserved, with minor 0 and 1 also 23 to 25, and with minor 0 also 15
unfoldable pub class_of : ℕ → ℕ → Class
class_of minor tag =
    when tag ≤? 14 then Plain else
    when tag =? astring_tag then (when minor =? 0 then Reserved else Plain) else
    when tag ≤? 17 then Text else
    when tag =? 18 then Interface else
    when tag =? 19 then InterfaceIs else
    when tag =? array_tag then Array else
    when tag ≤? 22 then Sized else
    when tag ≤? further_astring_tag then (when minor <? strings_minor then Reserved else Text) else
    Reserved

unfoldable pub is_reserved : Class → Bool
is_reserved Reserved = true
is_reserved Plain = false
is_reserved Text = false
is_reserved Interface = false
is_reserved InterfaceIs = false
is_reserved Array = false
is_reserved Sized = false

-- tags 16 to 25 need pointer
unfoldable pub needs_pointer : Class → Bool
needs_pointer Reserved = false
needs_pointer Plain = false
needs_pointer Text = true
needs_pointer Interface = true
needs_pointer InterfaceIs = true
needs_pointer Array = true
needs_pointer Sized = true

-- without pointer neither unique nor reference may be set, and no tag that needs it may stand
unfoldable pub lacks_pointer : Class → ℕ → Bool
lacks_pointer k b =
    when pointer_bit ≤? b then false else
    when reference_bit ≤? b then true else
    needs_pointer k

-- an index of the directory, 1 to n
unfoldable pub read_index : Context → List ℕ → ℕ → Got ℕ
read_index c s p =
    next (field 2 c s p) λ i e.
    when i =? 0 then bad 15 (c.base + p) else
    when c.count <? i then bad 15 (c.base + p) else
    got i e

-- what follows the prefix b at p, from e on, given what reads an array; a reserved tag was refused before
unfoldable pub read_rest : (ℕ → ℕ → ℕ → Got (Ty ℕ)) → Context → List ℕ → Class → ℕ → ℕ → ℕ → Got (Ty ℕ)
read_rest array_at c s Reserved p b e = bad 14 (c.base + p)
read_rest array_at c s Plain p b e = got (simple b) e
read_rest array_at c s Text p b e = got (simple b) e
read_rest array_at c s Interface p b e =
    next (read_index c s e) λ i e.
    got (interface b i) e
read_rest array_at c s InterfaceIs p b e =
    next (byte c s e) λ a e.
    got (interface_is b a) e
read_rest array_at c s Array p b e = array_at p b e
read_rest array_at c s Sized p b e =
    next (byte c s e) λ x e.
    next (byte c s e) λ y e.
    got (sized b x y) e

-- a type at p, given what reads an array: in the prefix 14 comes before 16, and 16 before 17
unfoldable pub type_with : (ℕ → ℕ → ℕ → Got (Ty ℕ)) → Context → List ℕ → ℕ → Got (Ty ℕ)
type_with array_at c s p =
    next (byte c s p) λ b e.
    when is_reserved (class_of c.minor (tag_of b)) then bad 14 (c.base + p) else
    when lacks_pointer (class_of c.minor (tag_of b)) b then bad 16 (c.base + p) else
    read_rest array_at c s (class_of c.minor (tag_of b)) p b e

-- an array of prefix b at p, from e on, with `left` arrays allowed one inside another, itself among them
unfoldable pub read_array : ℕ → Context → List ℕ → ℕ → ℕ → ℕ → Got (Ty ℕ)
read_array zero c s p b e = bad 17 (c.base + p)
read_array (suc left) c s p b e =
    next (byte c s e) λ x e.
    next (byte c s e) λ y e.
    next (type_with (read_array left c s) c s e) λ t e.
    got (array b x y t) e

unfoldable pub read_type : ℕ → Context → List ℕ → ℕ → Got (Ty ℕ)
read_type left c s p = type_with (read_array left c s) c s p
