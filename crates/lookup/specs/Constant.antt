-- Document 01, "Questions": constants, searched as methods are; and their values, of four kinds.
-- Assumes nothing.
use Rattle.std.specs.Prelude.{List, [], ◌∷◌, Bool, ℕ, None, Option as Maybe, Some}
use Rattle.std.proofs.Math.Option.{Option, none, some}
use Rattle.number.specs.Choice.{when◌then◌else◌, ◌=?◌}
use Rattle.key.specs.Word.{same_word}
unfoldable pub use Rattle.signed.specs.Bits.{signed}
use Rattle.reader.specs.Values.{Constant, constant, constant_name, constants_of}
use Rattle.lookup.specs.declared.Value.{Value}
use Rattle.lookup.specs.declared.Value.TheVariants.{I16, I32, U16, U32}
use Rattle.lookup.specs.Chain.{Level, level, Chain, chain, Sought, seek}

-- a constant of type byte 1, 2, 5 or 6: signed for 1 and 2
unfoldable pub value_of : Constant → Value
value_of (constant w k v) =
    when k =? 1 then I16 (signed 15 v) else
    when k =? 2 then I32 (signed 31 v) else
    when k =? 5 then U16 v else
    U32 v

unfoldable pub is_called : List ℕ → Constant → Bool
is_called w c = same_word (constant_name c) w

-- the first that passes
unfoldable pub first_of : {X : Type 0} → (X → Bool) → List X → Option X
first_of p [] = none
first_of p (x ∷ xs) = when p x then some x else first_of p xs

-- the value of a constant that was found in one interface
unfoldable pub own_as : Option Constant → Maybe Value
own_as none = None
own_as (some c) = Some (value_of c)

-- constant by name
unfoldable pub own_constant : {R : Type 0} → List ℕ → Level R → Chain R → Option Constant
own_constant w (level r d) above = first_of (is_called w) (constants_of d)

unfoldable pub constant_named : {R : Type 0} → List ℕ → Chain R → Sought R Constant
constant_named w (chain xs end) = seek (own_constant w) xs end
