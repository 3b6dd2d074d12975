-- Document 01, "Rules between fields": the argument numbers of types, and the result rule.
-- Assumes nothing.
use Rattle.std.specs.Prelude.{Bool, true, false, List, [], ◌∷◌, ℕ, length, get_or}
use Rattle.number.specs.Bits.{bit}
use Rattle.number.specs.Choice.{when◌then◌else◌, ◌<?◌, ◌≤?◌, ◌=?◌, ◌≠?◌}
use Rattle.types.specs.Prefix.{pointer_bit, tag_of, uint32_tag, void_tag, iid_tag}
use Rattle.types.specs.Types.{Ty, simple, interface, interface_is, array, sized, prefix}
use Rattle.method.specs.Flags.{not_xpcom_bit, retval_bit}
use Rattle.method.specs.Parameter.{Param, param_type}

-- the prefixes of the arguments' types, by argument number
unfoldable pub prefixes : {R : Type 0} → List (Param R) → List ℕ
prefixes [] = []
prefixes (x ∷ ps) = prefix (param_type x) ∷ prefixes ps

-- argument number a is not below the argument count, or doesn't name a parameter of tag 14 with pointer
unfoldable pub wrong_iid : List ℕ → ℕ → Bool
wrong_iid pre a =
    when length pre ≤? a then true else
    when tag_of (get_or pre a 0) ≠? iid_tag then true else
    get_or pre a 0 <? pointer_bit

-- argument number a is not below the argument count, or doesn't name a parameter of tag 6 without pointer
unfoldable pub wrong_size : List ℕ → ℕ → Bool
wrong_size pre a =
    when length pre ≤? a then true else
    when tag_of (get_or pre a 0) ≠? uint32_tag then true else
    pointer_bit ≤? get_or pre a 0

-- size and length
unfoldable pub wrong_sizes : List ℕ → ℕ → ℕ → Bool
wrong_sizes pre x y = when wrong_size pre x then true else wrong_size pre y

-- of a type, inside array elements at any depth
unfoldable pub wrong_numbers : {R : Type 0} → List ℕ → Ty R → Bool
wrong_numbers pre (simple b) = false
wrong_numbers pre (interface b i) = false
wrong_numbers pre (interface_is b a) = wrong_iid pre a
wrong_numbers pre (array b x y t) = when wrong_sizes pre x y then true else wrong_numbers pre t
wrong_numbers pre (sized b x y) = wrong_sizes pre x y

-- of a method's arguments
unfoldable pub wrong_arguments : {R : Type 0} → List ℕ → List (Param R) → Bool
wrong_arguments pre [] = false
wrong_arguments pre (x ∷ ps) = when wrong_numbers pre (param_type x) then true else wrong_arguments pre ps

-- Unless not-XPCOM stands in the method's flags f, or retval in the result's flags g, the result is tag 13 or 6 without pointer;
-- b is its prefix, which has no other bit set then, since unique and reference need pointer.
unfoldable pub wrong_result : ℕ → ℕ → ℕ → Bool
wrong_result f g b =
    when bit not_xpcom_bit f =? 1 then false else
    when bit retval_bit g =? 1 then false else
    when b =? void_tag then false else
    b ≠? uint32_tag
