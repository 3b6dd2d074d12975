-- Document 01, "Method".
-- Assumes nothing.
use Rattle.std.specs.Prelude.{true, false, List, [], ℕ, ◌+◌}
use Rattle.number.specs.Bits.{bits_below}
use Rattle.number.specs.Choice.{when◌then◌else◌, ◌≠?◌}
use Rattle.reading.specs.Got.{Got, got, bad, next, many, byte}
use Rattle.reading.specs.declared.Context.{Context}
use Rattle.name.specs.Name.{read_name}
use Rattle.types.specs.Types.{prefix, simple}
use Rattle.method.specs.Flags.{lowest_flag}
use Rattle.method.specs.Parameter.{Param, param, param_flags, param_type, read_param}
use Rattle.method.specs.Numbers.{prefixes, wrong_numbers, wrong_arguments, wrong_result}

-- arguments and result
pub data Signature (R : Type 0) : Type 0 where
  signature : List (Param R) → Param R → Signature R
  deriving Discrete as Signature-discrete

-- flags, name, signature
pub data Method (R : Type 0) : Type 0 where
  method : ℕ → List ℕ → Signature R → Method R
  deriving Discrete as Method-discrete

unfoldable pub method_flags : {R : Type 0} → Method R → ℕ
method_flags (method f w g) = f

unfoldable pub method_name : {R : Type 0} → Method R → List ℕ
method_name (method f w g) = w

unfoldable pub method_signature : {R : Type 0} → Method R → Signature R
method_signature (method f w g) = g

-- argument numbers and the result rule, of a method at `first` with flags f, once its result was read up to e;
-- `pre` are the prefixes of its arguments
unfoldable pub rule_signature : Context → ℕ → ℕ → List ℕ → List (Param ℕ) → Param ℕ → ℕ → Got (Signature ℕ)
rule_signature c first f pre ps r e =
    when wrong_arguments pre ps then bad 16 (c.base + first) else
    when wrong_numbers pre (param_type r) then bad 16 (c.base + first) else
    when wrong_result f (param_flags r) (prefix (param_type r)) then bad 16 (c.base + first) else
    got (signature ps r) e

-- argument count 1; the parameters; the result, one more parameter record
unfoldable pub read_signature : Context → List ℕ → ℕ → ℕ → ℕ → Got (Signature ℕ)
read_signature c s first f p =
    next (byte c s p) λ n e.
    next (many (read_param false c s) n e) λ ps e.
    next (read_param true c s e) λ r e.
    rule_signature c first f (prefixes ps) ps r e

-- flags 1, three bits of them reserved; name pointer 4; the signature
unfoldable pub read_method : Context → List ℕ → ℕ → Got (Method ℕ)
read_method c s p =
    next (byte c s p) λ f e.
    when bits_below lowest_flag f ≠? 0 then bad 14 (c.base + p) else
    next (read_name c s e) λ w e.
    next (read_signature c s p f e) λ g e.
    got (method f w g) e

-- what stands past the end of a list of methods
unfoldable pub no_method : Method ℕ
no_method = method 0 [] (signature [] (param 0 (simple 0)))
