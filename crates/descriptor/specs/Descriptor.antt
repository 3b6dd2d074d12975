-- Document 01, "Interface descriptor".
-- Assumes nothing.
use Rattle.std.specs.Prelude.{Bool, true, false, List, ℕ, ◌+◌, length, get_or}
use Rattle.std.proofs.Math.Option.{Option, none, some}
use Rattle.number.specs.Limits.{own_limit}
use Rattle.number.specs.Bits.{bit, bits_below}
use Rattle.number.specs.Choice.{when◌then◌else◌, ◌<?◌, ◌=?◌, ◌≠?◌}
use Rattle.reading.specs.Got.{Got, got, bad, next, many, byte, field}
use Rattle.reading.specs.declared.Context.{Context}
use Rattle.method.specs.Method.{Method, method_flags, method_name, no_method, read_method}
use Rattle.descriptor.specs.Constant.{Constant, read_constant}
use Rattle.descriptor.specs.Rules.{many_constructors, stray_pairs}

-- parent, methods, constants, flags
pub data Descriptor (R : Type 0) : Type 0 where
  descriptor : Option R → List (Method R) → List Constant → ℕ → Descriptor R
  deriving Discrete as Descriptor-discrete

unfoldable pub parent_of : {R : Type 0} → Descriptor R → Option R
parent_of (descriptor up ms ks f) = up

unfoldable pub methods_of : {R : Type 0} → Descriptor R → List (Method R)
methods_of (descriptor up ms ks f) = ms

unfoldable pub constants_of : {R : Type 0} → Descriptor R → List Constant
constants_of (descriptor up ms ks f) = ks

unfoldable pub interface_flags : {R : Type 0} → Descriptor R → ℕ
interface_flags (descriptor up ms ks f) = f

-- an index, 0 being none
unfoldable pub indexed : ℕ → Option ℕ
indexed i = when i =? 0 then none else some i

-- parent index 2: 0 none, else 1 to n
unfoldable pub read_parent : Context → List ℕ → ℕ → Got (Option ℕ)
read_parent c s p =
    next (field 2 c s p) λ i e.
    when c.count <? i then bad 15 (c.base + p) else
    got (indexed i) e

-- a count of two bytes, at most 1,024, and that many records
unfoldable pub read_counted : {X : Type 0} → (ℕ → Got X) → Context → List ℕ → ℕ → Got (List X)
read_counted rd c s p =
    next (field 2 c s p) λ n e.
    when own_limit <? n then bad 17 (c.base + p) else
    many rd n e

-- the lower of the two flags; scriptable, 0x80, has no rule
abbrev pub function_bit : ℕ
function_bit = 0x40

-- six reserved bits; with minor 0 function is reserved too
unfoldable pub reserved_interface : ℕ → ℕ → Bool
reserved_interface minor f =
    when bits_below function_bit f ≠? 0 then true else
    when minor =? 0 then bit function_bit f =? 1 else
    false

-- the flags of the descriptor at `first`, and the rules on its n methods, with flags f and names w by position
unfoldable pub read_flags : Context → List ℕ → ℕ → (ℕ → ℕ) → (ℕ → List ℕ) → ℕ → ℕ → Got ℕ
read_flags c s first f w n p =
    next (byte c s p) λ g e.
    when reserved_interface c.minor g then bad 14 (c.base + p) else
    when many_constructors f n then bad 16 (c.base + first) else
    when stray_pairs f w n then bad 16 (c.base + first) else
    got g e

unfoldable pub flags_in : List (Method ℕ) → ℕ → ℕ
flags_in ms i = method_flags (get_or ms i no_method)

unfoldable pub names_in : List (Method ℕ) → ℕ → List ℕ
names_in ms i = method_name (get_or ms i no_method)

unfoldable pub read_descriptor : Context → List ℕ → ℕ → Got (Descriptor ℕ)
read_descriptor c s p =
    next (read_parent c s p) λ up e.
    next (read_counted (read_method c s) c s e) λ ms e.
    next (read_counted (read_constant c s) c s e) λ ks e.
    next (read_flags c s p (flags_in ms) (names_in ms) (length ms) e) λ g e.
    got (descriptor up ms ks g) e
