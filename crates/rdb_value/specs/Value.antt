-- Document 001, "Layout of per-entry payload in a constant group Map": the values, of ten kinds. Request #105: FLOAT and DOUBLE are handed out with
-- every bit as stored; those of a NaN, which no f32 or f64 carries here, in cases of their own.
-- Assumes nothing.
use Rattle.std.specs.Prelude.{true, false, ℕ}
use Rattle.std.specs.Float.{binary32, binary64}
use Rattle.std.specs.Float.Ieee.{of_bits, to_bits, nan_bits}
use Rattle.number.specs.Choice.{when◌then◌else◌, ◌=?◌}
use Rattle.signed.specs.Bits.{bits_of, signed}
use Rattle.rdb_value.specs.declared.Value.{Value}
use Rattle.rdb_value.specs.declared.Value.TheVariants.{Boolean, Byte, Short, UnsignedShort, Long, UnsignedLong, Hyper, UnsignedHyper, Float, Double, FloatNan, DoubleNan}

-- a number of 32 bits as binary32
unfoldable pub float32 : ℕ → Value
float32 v = when nan_bits binary32 v then FloatNan v else Float (of_bits binary32 v)

-- a number of 64 bits as binary64
unfoldable pub float64 : ℕ → Value
float64 v = when nan_bits binary64 v then DoubleNan v else Double (of_bits binary64 v)

-- the value of a constant of kind 0 to 9, stored as v
unfoldable pub value_of : ℕ → ℕ → Value
value_of k v =
    when k =? 0 then Boolean (v =? 1) else
    when k =? 1 then Byte (signed 7 v) else
    when k =? 2 then Short (signed 15 v) else
    when k =? 3 then UnsignedShort v else
    when k =? 4 then Long (signed 31 v) else
    when k =? 5 then UnsignedLong v else
    when k =? 6 then Hyper (signed 63 v) else
    when k =? 7 then UnsignedHyper v else
    when k =? 8 then float32 v else
    float64 v

-- ---- back again: of which of the ten kinds a value is, and what it was stored as

unfoldable pub value_kind : Value → ℕ
value_kind (Boolean b) = 0
value_kind (Byte z) = 1
value_kind (Short z) = 2
value_kind (UnsignedShort n) = 3
value_kind (Long z) = 4
value_kind (UnsignedLong n) = 5
value_kind (Hyper z) = 6
value_kind (UnsignedHyper n) = 7
value_kind (Float x) = 8
value_kind (Double x) = 9
value_kind (FloatNan n) = 8
value_kind (DoubleNan n) = 9

unfoldable pub stored_of : Value → ℕ
stored_of (Boolean true) = 1
stored_of (Boolean false) = 0
stored_of (Byte z) = bits_of 8 z
stored_of (Short z) = bits_of 16 z
stored_of (UnsignedShort n) = n
stored_of (Long z) = bits_of 32 z
stored_of (UnsignedLong n) = n
stored_of (Hyper z) = bits_of 64 z
stored_of (UnsignedHyper n) = n
stored_of (Float x) = to_bits binary32 x
stored_of (Double x) = to_bits binary64 x
stored_of (FloatNan n) = n
stored_of (DoubleNan n) = n
