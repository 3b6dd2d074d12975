-- Document 01, "Constant".
-- Assumes nothing.
use Rattle.std.specs.Prelude.{List, ℕ, ◌+◌}
use Rattle.number.specs.Choice.{when◌then◌else◌, ◌=?◌}
use Rattle.reading.specs.Got.{Got, got, bad, next, byte, field}
use Rattle.reading.specs.declared.Context.{Context}
use Rattle.name.specs.Name.{read_name}

-- name, type byte, value as stored
pub data Constant : Type 0 where
  constant : List ℕ → ℕ → ℕ → Constant
  deriving Discrete as Constant-discrete

-- the bytes of a value, by its type byte: exactly 1, 2, 5 or 6; 0 for another
unfoldable pub value_size : ℕ → ℕ
value_size k =
    when k =? 1 then 2 else
    when k =? 2 then 4 else
    when k =? 5 then 2 else
    when k =? 6 then 4 else
    0

-- name pointer 4; type byte; value of 2, 4, 2 or 4 bytes
unfoldable pub read_constant : Context → List ℕ → ℕ → Got Constant
read_constant c s p =
    next (read_name c s p) λ w e.
    next (byte c s e) λ k d.
    when value_size k =? 0 then bad 16 (c.base + e) else
    next (field (value_size k) c s d) λ v e.
    got (constant w k v) e
