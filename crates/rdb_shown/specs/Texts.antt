-- The value of a constant of a types.rdb as it is printed: its kind and its value, FLOAT and DOUBLE as their stored bits.
-- Assumes nothing.
use Rattle.std.specs.Prelude.{true, false, List, ◌++◌, ℕ}
use Rattle.std.specs.Float.{binary32, binary64}
use Rattle.std.specs.Float.Ieee.{to_bits}
use Rattle.ascii.specs.Ascii.{ascii}
use Rattle.decimal.specs.Digits.{digits_of}
use Rattle.text.specs.Hex.{hex_of}
use Rattle.text.specs.Signed.{signed_text}
use Rattle.rdb_value.specs.declared.Value.{Value}
use Rattle.rdb_value.specs.declared.Value.TheVariants.{Boolean, Byte, Short, UnsignedShort, Long, UnsignedLong, Hyper, UnsignedHyper, Float, Double, FloatNan, DoubleNan}

-- a FLOAT and a DOUBLE, whose bits are v
abbrev pub float_text : ℕ → List ℕ
float_text v = ascii "float " ++ hex_of 8 v

abbrev pub double_text : ℕ → List ℕ
double_text v = ascii "double " ++ hex_of 16 v

-- `short -2`, `boolean true`, `float 3fc00000`
unfoldable pub value_text : Value → List ℕ
value_text (Boolean true) = ascii "boolean true"
value_text (Boolean false) = ascii "boolean false"
value_text (Byte z) = ascii "byte " ++ signed_text z
value_text (Short z) = ascii "short " ++ signed_text z
value_text (UnsignedShort n) = ascii "unsigned-short " ++ digits_of n
value_text (Long z) = ascii "long " ++ signed_text z
value_text (UnsignedLong n) = ascii "unsigned-long " ++ digits_of n
value_text (Hyper z) = ascii "hyper " ++ signed_text z
value_text (UnsignedHyper n) = ascii "unsigned-hyper " ++ digits_of n
value_text (Float x) = float_text (to_bits binary32 x)
value_text (Double x) = double_text (to_bits binary64 x)
value_text (FloatNan n) = float_text n
value_text (DoubleNan n) = double_text n
