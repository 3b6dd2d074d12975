-- The argument numbers and the rules of what was read.
-- Assumes nothing.
use Rattle.std.specs.Prelude.{Bool, true, false, List, ℕ, get_or, None, Option, Some}
use Rattle.number.specs.Choice.{when◌then◌else◌, ◌≤?◌}
use Rattle.reading.specs.Got.{Got, got, bad, next, many}
use Rattle.reading.specs.declared.Context.{Context}
use Rattle.types.specs.Prefix.{tag_of}
use Rattle.types.specs.Types.{Ty}
use Rattle.method.specs.Parameter.{Param, read_param}
use Rattle.method.specs.Numbers.{prefixes, wrong_numbers, wrong_arguments}
use Rattle.method.specs.Method.{Signature, rule_signature}

-- a type that ends at e; `pre` are the prefixes of the arguments
unfoldable pub fine : List ℕ → Ty ℕ → ℕ → Option ℕ
fine pre t e = when wrong_numbers pre t then None else Some e

-- of a type that was read
unfoldable pub fine_of : List ℕ → Got (Ty ℕ) → Option ℕ
fine_of pre (got t e) = fine pre t e
fine_of pre (bad n q) = None

-- of arguments that were read
unfoldable pub broken_of : List ℕ → Got (List (Param ℕ)) → Bool
broken_of pre (got ps e) = wrong_arguments pre ps
broken_of pre (bad n q) = true

-- argument i of the table of prefixes t has a tag that argument numbers may follow
unfoldable pub numbered : List ℕ → ℕ → Bool
numbered t i = 19 ≤? tag_of (get_or t i 0)

-- the rules of a signature whose arguments and result were read, the result up to `end`
unfoldable pub rule_of : Context → ℕ → ℕ → List ℕ → Got (List (Param ℕ)) → Got (Param ℕ) → ℕ → Got (Signature ℕ)
rule_of c first f pre g h end =
    next g λ ps _.
    next h λ r _.
    rule_signature c first f pre ps r end

-- a signature of n arguments, which start at p
abbrev pub signature_from : Context → List ℕ → ℕ → ℕ → ℕ → ℕ → Got (Signature ℕ)
signature_from c s first f n p =
    next (many (read_param false c s) n p) λ ps e.
    next (read_param true c s e) λ r e.
    rule_signature c first f (prefixes ps) ps r e
