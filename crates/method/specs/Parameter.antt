-- Document 01, "Parameter": flags and a type.
-- Assumes nothing.
use Rattle.std.specs.Prelude.{Bool, true, false, List, ℕ, ◌+◌}
use Rattle.number.specs.Bits.{bit, bits_below}
use Rattle.number.specs.Choice.{when◌then◌else◌, ◌≤?◌, ◌=?◌, ◌≠?◌}
use Rattle.reading.specs.Got.{Got, got, bad, next, byte}
use Rattle.reading.specs.declared.Context.{Context}
use Rattle.types.specs.Types.{Ty, read_type}
use Rattle.method.specs.Flags.{out_bit, retval_bit, dipper_bit, lowest_flag}

pub data Param (R : Type 0) : Type 0 where
  param : ℕ → Ty R → Param R
  deriving Discrete as Param-discrete

unfoldable pub param_flags : {R : Type 0} → Param R → ℕ
param_flags (param f t) = f

unfoldable pub param_type : {R : Type 0} → Param R → Ty R
param_type (param f t) = t

-- three reserved bits; with minor 0 dipper is reserved too
unfoldable pub reserved_param : ℕ → ℕ → Bool
reserved_param minor f =
    when bits_below lowest_flag f ≠? 0 then true else
    when minor =? 0 then bit dipper_bit f =? 1 else
    false

-- a result has neither in nor out, the two highest bits; an argument with retval has out
unfoldable pub wrong_param : Bool → ℕ → Bool
wrong_param result f =
    when result then out_bit ≤? f else
    when bit retval_bit f =? 1 then bit out_bit f =? 0 else
    false

-- an argument or, where `result` says so, a result; its type may hold eight arrays one inside another
unfoldable pub read_param : Bool → Context → List ℕ → ℕ → Got (Param ℕ)
read_param result c s p =
    next (byte c s p) λ f e.
    when reserved_param c.minor f then bad 14 (c.base + p) else
    when wrong_param result f then bad 16 (c.base + p) else
    next (read_type 8 c s e) λ t e.
    got (param f t) e
