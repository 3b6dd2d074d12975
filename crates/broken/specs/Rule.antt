-- Which rule a refusal at `place` is of. Of 16: the numbers of docs/FORMAT.md, "Rules between fields", and 8 for the type of a constant.
-- 0 is no rule: where the bytes are not refused so.
-- Assumes nothing.
use Rattle.std.specs.Prelude.{Bool, true, false, List, ℕ, ◌+◌, ◌-◌, ◌%◌, length, get_or}
use Rattle.number.specs.Limits.{own_limit}
use Rattle.number.specs.Choice.{when◌then◌else◌, ◌<?◌, ◌=?◌, ◌≠?◌}
use Rattle.number.specs.Number.{be}
use Rattle.reading.specs.Got.{Got, got, bad, next, many}
use Rattle.reading.specs.declared.Context.{Context}
use Rattle.method.specs.Parameter.{Param, param_type, read_param}
use Rattle.method.specs.Numbers.{prefixes, wrong_numbers, wrong_arguments}
use Rattle.method.specs.Method.{read_method}
use Rattle.descriptor.specs.Rules.{many_constructors}
use Rattle.descriptor.specs.Descriptor.{flags_in}
use Rattle.broken.specs.declared.Stop.{Stop}
use Rattle.broken.specs.Stop.{stop_of}

-- of 8: 1 the directory's offset is no multiple of 4; 2 the directory does not fit between the annotations and the pool;
-- 3 the pool's offset is below 33 or past the file's end; 4 there is no interface, and the directory's offset is not 0
unfoldable pub position_rule : List ℕ → ℕ → ℕ
position_rule s place =
    when length s <? 32 then 0 else
    when place =? 28 then 3 else
    when be 2 s 18 =? 0 then 4 else
    when be 4 s 24 % 4 ≠? 0 then 1 else
    2

-- the rule that was found, or none
unfoldable pub rule_read : Got ℕ → ℕ
rule_read (got rule e) = rule
rule_read (bad n q) = 0

-- of a parameter at p: 2 for the flags of an argument, 3 for those of a result, 1 for a prefix in its type
unfoldable pub param_rule : Bool → Context → ℕ → ℕ → ℕ
param_rule result c p place =
    when place ≠? c.base + p then 1 else
    when result then 3 else
    2

-- of the parameter that reading n arguments from p on stops at, which is the result where all are read
unfoldable pub stop_rule : Context → ℕ → ℕ → Stop → ℕ
stop_rule c n place t = param_rule (t.read =? n) c t.at place

-- of a method whose arguments and result are read: 4 for an argument number, 5 for the result
unfoldable pub number_rule : List (Param ℕ) → Param ℕ → ℕ
number_rule ps r =
    when wrong_arguments (prefixes ps) ps then 4 else
    when wrong_numbers (prefixes ps) (param_type r) then 4 else
    5

unfoldable pub signature_rule : Context → List ℕ → ℕ → ℕ → ℕ
signature_rule c s n p = rule_read (
    next (many (read_param false c s) n p) λ ps e.
    next (read_param true c s e) λ r e.
    got (number_rule ps r) e)

-- of a method at p: its first byte is the place of 4 and 5; its argument count is the sixth
unfoldable pub method_rule : Context → List ℕ → ℕ → ℕ → ℕ
method_rule c s p place =
    when length s <? p + 6 then 0 else
    when place =? c.base + p then signature_rule c s (get_or s (p + 5) 0) (p + 6) else
    stop_rule c (get_or s (p + 5) 0) place (stop_of (read_param false c s) (get_or s (p + 5) 0) (p + 6))

-- of the method that reading n methods stops at; where all are read it is the type of a constant
unfoldable pub member_rule : Context → List ℕ → ℕ → ℕ → Stop → ℕ
member_rule c s n place t =
    when t.read =? n then 8 else
    method_rule c s t.at place

-- of n methods from p on that are read: 6 for constructors, 7 for a getter pair
unfoldable pub table_rule : Context → List ℕ → ℕ → ℕ → ℕ
table_rule c s n p = rule_read (
    next (many (read_method c s) n p) λ ms e.
    got (when many_constructors (flags_in ms) n then 6 else 7) e)

-- of a descriptor at p: its first byte is the place of 6 and 7
unfoldable pub descriptor_rule : Context → List ℕ → ℕ → ℕ → ℕ
descriptor_rule c s p place =
    when length s <? p + 4 then 0 else
    when own_limit <? be 2 s (p + 2) then 0 else
    when place =? c.base + p then table_rule c s (be 2 s (p + 2)) (p + 4) else
    member_rule c s (be 2 s (p + 2)) place (stop_of (read_method c s) (be 2 s (p + 2)) (p + 4))

-- of the descriptor that the pool pointer q leads to
unfoldable pub own_rule : Context → List ℕ → ℕ → ℕ → ℕ
own_rule c s q place = when q =? 0 then 0 else descriptor_rule c s (q - 1) place
